use Rattle.std.proofs.Common.{ap, ◌+◌, ◌++◌, subst, arith}
use Rattle.vcm_num.specs.Written.{Wrote}
use Rattle.vcm_cause.specs.Behind.{Behind}
use Rattle.vcm_turning.specs.Choosing.{probe_on}
use Rattle.vcm_turning.specs.Machine.{TurningEnded}
use Rattle.vcm_why.specs.Reasons.{where_lines}
use Rattle.vcm_set_views.specs.Fit.{Fit, behind}
use Rattle.vcm_set_views.specs.Ends.{no_probe_line}
use Rattle.vcm_set_views.specs.Reasons.{wanting_line}
use Rattle.vcm_set_views.proofs.Told.{held_is, lost_is}
use Rattle.vcm_set_views.proofs.reasons.write_reason.Goals as goal

pub write_lost-requires-clause-few : goal.write_lost-requires-clause-few
write_lost-requires-clause-few g c =
    let f = c.args.fitted.now in
    let e = c.args.ending.now.end in
    let h = subst (λ x. TurningEnded c.requires.end.0 f.part f.probes f.variable f.code e.done x) c.in-Lost.is c.requires.end.2.ended.ended in
    let less = h.0 in
    let few = c.requires.end.1 in
    omega (arith, less, few)

pub returns-in-Lost : goal.returns-in-Lost
returns-in-Lost g c =
    let f = c.args.fitted.now in
    let at = c.args.ending.now in
    let is = c.requires.end.2 in
    let l = c.in-Lost.lost in
    let held = held_is at.world f.code.tables (behind f at.end.done).state.world is.tables is.state in
    let rounds = ap (λ (b : Behind). b.rounds) c.requires.known in
    let told = rw c.probes.ensures.probes at c.write_lost.ensures in
    rw c.in-Lost.is (subst (λ ls. Wrote (g.W.Write.contents c.args.writer.now) (g.W.Write.contents c.write_lost.new.writer) ls c.write_lost.result) (lost_is c.args.names.now c.args.source.now f at.end at.next (behind f at.end.done).state.next l at.world
    c.args.progress.now.rounds at.on held rounds is.next is.on)
    (subst (λ (k : Fit). Wrote (g.W.Write.contents c.args.writer.now) (g.W.Write.contents c.write_lost.new.writer) (no_probe_line l (at.end.done + 1) ++ (where_lines c.args.source.now k.code.statements at.world c.args.progress.now.rounds at.next l.line
    ++ wanting_line l (probe_on k.probes at.on))) c.write_lost.result) c.fitted.view_is told))

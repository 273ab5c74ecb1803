use Rattle.std.proofs.Common.{refl, sym, ap, subst}
use Rattle.vcm_code.specs.declared.code.Code.{Code}
use Rattle.vcm_spec.specs.Workpiece.{Workpiece}
use Rattle.vcm_probe_set.specs.Probes.{Probe}
use Rattle.std.specs.Prelude.{List, ℕ}
use Rattle.vcm_turning.specs.Machine.{Turner, HasRunTurned}
use Rattle.vcm_turning.specs.Steps.{turned_steps}
use Rattle.vcm_set_views.specs.Chains.{Chain}
use Rattle.vcm_set_views.specs.Fit.{Fit, steps_of}
use Rattle.vcm_set_views.proofs.Told.{at_end}
use Rattle.vcm_set_views.proofs.running.run_machine.Goals as goal

pub returns-in_default : goal.returns-in_default
returns-in_default g c =
    let f = c.args.fitted.now in
    let new = c.follow_turns.new.machine in
    let ran = c.in_ok-ran.ran in
    let loaded = c.fitted.inside.loaded.now in
    let code = ap (λ (k : Fit). k.code) c.fitted.view_is in
    let one = g.S.SeesSteps.One c.args.by.now.by.now in
    let blocks = c.args.by.now.beside.blocks.now in
    let probes = c.args.by.now.beside.probes.now in
    let old = c.args.to.now in
    let to = c.follow_turns.new.to in
    let run = subst (λ (k : Code). HasRunTurned c.args.steps f.part f.probes f.variable k new ran) code
    (subst (λ (x : Turner). HasRunTurned c.args.steps x.part x.probes x.variable loaded new ran) c.requires.start c.in_ok-ran.ensures.run) in
    let e = c.ending_of.ensures in
    let seen = subst (λ (x : Turner). Chain (one loaded.tables) blocks probes old to (turned_steps x.part x.probes x.variable loaded ran.done)) c.requires.start c.in_ok-ran.ensures.has in
    let of_code = subst (λ (k : Code). Chain (one k.tables) blocks probes old to (turned_steps f.part f.probes f.variable k ran.done)) code seen in
    let of_part = subst (λ (p : Workpiece). Chain (one f.code.tables) p probes old to (steps_of f ran.done)) c.requires.part of_code in
    let of_probes = subst (λ (ps : List Probe). Chain (one f.code.tables) f.part ps old to (steps_of f ran.done)) c.requires.probes of_part in
    record {
      end = at_end f c.args.steps new ran ran.end c.ending_of.result run refl c.in_default.not-NoMemory e.state e.tables e.next
          e.within e.on e.there e.end;
      seen = subst (λ (n : ℕ). Chain (one f.code.tables) f.part f.probes old to (steps_of f n)) (sym (ap (λ k. k.done) e.end)) of_probes;
    }

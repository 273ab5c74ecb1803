use Rattle.std.proofs.Common.{sym, ap, ◌∙◌, subst}
use Rattle.vcm_way.specs.Steps.{TaskEnds}
use Rattle.vcm_way.specs.Ways.{reason}
use Rattle.vcm_way.proofs.Stepped.{on_ok_then}
use Rattle.vcm_turning.specs.Choosing.{part_by}
use Rattle.vcm_turning.specs.Following.{told_step}
use Rattle.vcm_set_clearance.proofs.Stepping.{turned_ends}
use Rattle.vcm_set_views.proofs.Chaining.{chain_more, marks_by}
use Rattle.vcm_set_views.proofs.following.MarkingFollowsTurns.see.Goals as goal

pub marks-marks-requires-clause-ends : goal.marks-marks-requires-clause-ends
marks-marks-requires-clause-ends g c =
    let part = c.args.self.now.beside.blocks.now in
    let ps = c.args.self.now.beside.probes.now in
    let b = c.args.before in
    let fit = c.requires.is_next.fit in
    subst (TaskEnds (part_by part ps c.args.on) b.position b.settings b.task) (sym (c.reason.ensures ∙ ap reason c.stop.ensures))
    (turned_ends _ b c.args.on c.args.statement.now c.args.turn c.args.world.now.state part ps c.requires fit.3 fit.4)

pub returns-clause-ok : goal.returns-clause-ok
returns-clause-ok g c =
    let part = c.args.self.now.beside.blocks.now in
    let ps = c.args.self.now.beside.probes.now in
    let b = c.args.before in
    let s = c.args.statement.now in
    let after = c.args.world.now.state in
    let one = g.S.SeesSteps.One c.args.self.now.by.now c.args.world.now.tables in
    on_ok_then c.see.result _ _ (λ seen. λ w from ss looked has.
    let step = told_step c.args.count c.args.number s w after c.args.next c.args.on c.args.turn in
    let e = c.marks-marks.ensures ∙ marks_by part ps b s w after looked c.args.count c.args.number c.args.next c.args.turn c.reason.result (c.reason.ensures ∙ ap reason c.stop.ensures) c.args.on in
    chain_more one part ps from c.args.to.now c.see.new.to ss step has (subst (λ ms. one c.args.to.now c.see.new.to step ms) e (seen w))) c.see.ensures

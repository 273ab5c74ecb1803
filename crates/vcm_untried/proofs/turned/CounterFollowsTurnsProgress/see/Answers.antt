use Rattle.std.proofs.Common.{sym, ap, ◌∙◌}
use Rattle.std.proofs.lemmas.Result.{on_ok_weaker}
use Rattle.vcm_spec.specs.World.{World}
use Rattle.vcm_spec.specs.Effect.{at_index}
use Rattle.vcm_turning.specs.Following.{told_step}
use Rattle.vcm_turning.specs.Steps.{TurnedStep}
use Rattle.vcm_untried.specs.declared.counting.Progress.{Progress}
use Rattle.vcm_untried.specs.Telling.{shown, told_if}
use Rattle.vcm_untried.specs.Turned.{passages_of}
use Rattle.vcm_untried.proofs.Kept.{one_more}
use Rattle.vcm_untried.proofs.Turns.{counted_more}
use Rattle.vcm_untried.proofs.turned.CounterFollowsTurnsProgress.see.Goals as goal

pub returns-in-Some-clause-ok : goal.returns-in-Some-clause-ok
returns-in-Some-clause-ok c =
    let remarks = c.args.self.now.remarks.now in
    let table = c.args.self.now.table.now in
    let old = c.args.to.now in
    let new : Progress = record { taken = c.count_at.new.taken; told = c.tell.new.told } in
    let step : World → TurnedStep = λ w. told_step c.args._count c.args.number c.args._statement.now w c.args._world.now.state c.args._next c.args._on c.args._turn in
    let on = sym c.in-Some.is ∙ c.remark_at.ensures in
    on_ok_weaker c.tell.result
    (λ told w from ss looked has. counted_more remarks table from new ss (step w)
    (one_more remarks table from old new (passages_of ss) (step w).passage has c.count_at.ensures
    (λ below. told below ∙ ap (λ o. told_if (shown old.told) o c.args.before) on ∙ ap (told_if (shown old.told) (at_index table c.args.number)) looked)))
    c.tell.ensures

pub returns-in-None-clause-ok : goal.returns-in-None-clause-ok
returns-in-None-clause-ok c = λ w from ss looked has.
    let remarks = c.args.self.now.remarks.now in
    let table = c.args.self.now.table.now in
    let old = c.args.to.now in
    let new : Progress = record { taken = c.count_at.new.taken; told = c.args.to.now.told } in
    let step : TurnedStep = told_step c.args._count c.args.number c.args._statement.now w c.args._world.now.state c.args._next c.args._on c.args._turn in
    let on = sym c.in-None.is ∙ c.remark_at.ensures in
    counted_more remarks table from new ss step
    (one_more remarks table from old new (passages_of ss) step.passage has c.count_at.ensures
    (λ below. ap (λ o. told_if (shown old.told) o c.args.before) on ∙ ap (told_if (shown old.told) (at_index table c.args.number)) looked))

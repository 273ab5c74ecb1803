use Rattle.std.proofs.Common.{refl, sym, subst, rules, FitsSigned, w64, to_z-of_z}
use Rattle.std.proofs.lemmas.Result.{err_from_is_err_and}
use Rattle.std.specs.Int.{w16}
use Rattle.vcm_spec.specs.Setup.{setup_of}
use Rattle.vcm_state.specs.Carried.{Carried}
use Rattle.vcm_fields.specs.Readers.{variable_at, expression_at}
use Rattle.vcm_fields.proofs.Taking.{number_there, both_are}
use Rattle.vcm_machine.proofs.Evaluating.{value_fault, value_given}
use Rattle.vcm_machine.proofs.LoopBranches.{some_part}
use Rattle.vcm_machine.proofs.Reading.{known_first}
use Rattle.vcm_machine.proofs.acting.assign.Goals as goal

pub known_short-variable-requires : goal.known_short-variable-requires
known_short-variable-requires c = number_there w16 _ _ (both_are variable_at expression_at _ _ _ c.requires.2).1

pub returns-in_err-value-clause-carried : goal.returns-in_err-value-clause-carried
returns-in_err-value-clause-carried c part =
    let p = err_from_is_err_and c.from_residual.result c.from_residual.ensures.1 in
    rw (p.1, p.2) (λ o rest h.
    let r = known_first variable_at expression_at _ o rest _ c.known_short-variable.ensures h in
    (value_fault (setup_of part c.args.world.now.tables) c.args.world.now.state o.0 o.1 _ (c.in_err-value.ensures.fault o.1 rest r.1), refl))

pub returns-clause-carried : goal.returns-clause-carried
returns-clause-carried c part o rest h =
    let r = known_first variable_at expression_at _ o rest _ c.known_short-variable.ensures h in
    let given = value_given (setup_of part c.args.world.now.tables) c.args.world.now.state o.0 o.1 _ (c.in_ok-value.ensures.value o.1 rest r.1) in
    let fv : FitsSigned w64 c.in_ok-value.value = search rules in
    subst (λ o. Carried o c.args.world.now.state c.assign.new.self.state c.assign.result) (sym given)
    (rw (to_z-of_z fv, r.0) at (c.assign.ensures part).0)

pub returns-clause-tables : goal.returns-clause-tables
returns-clause-tables c = (c.assign.ensures some_part).1.0

pub returns-clause-stop : goal.returns-clause-stop
returns-clause-stop c = (c.assign.ensures some_part).1.1

use Rattle.std.proofs.Common.{refl, sym, subst, rules, FitsSigned, w64, to_z-of_z}
use Rattle.std.proofs.lemmas.Result.{err_from_is_err_and}
use Rattle.vcm_spec.specs.Setup.{setup_of}
use Rattle.vcm_state.specs.Carried.{Carried}
use Rattle.vcm_fields.specs.Readers.{setting_at, expression_at}
use Rattle.vcm_machine.proofs.Effects.{snset_stops, snset_goes}
use Rattle.vcm_machine.proofs.LoopBranches.{some_part}
use Rattle.vcm_machine.proofs.Reading.{read_first}
use Rattle.vcm_machine.proofs.measuring.set_length.Goals as goal

pub returns-in_err-length-clause-carried : goal.returns-in_err-length-clause-carried
returns-in_err-length-clause-carried c part =
    let p = err_from_is_err_and c.from_residual.result c.from_residual.ensures.1 in
    rw (p.1, p.2) (λ o rest h.
    let r = read_first _ _ setting_at expression_at c.args.bytes.now o rest _ c.setting.ensures c.known-which.ensures h in
    (snset_stops (setup_of part c.args.world.now.tables) c.args.world.now.state o.0 o.1 _ (c.in_err-length.ensures.fault o.1 rest r.1), refl))

pub returns-clause-carried : goal.returns-clause-carried
returns-clause-carried c part o rest h =
    let r = read_first _ _ setting_at expression_at c.args.bytes.now o rest _ c.setting.ensures c.known-which.ensures h in
    let given = snset_goes (setup_of part c.args.world.now.tables) c.args.world.now.state o.0 o.1 _ (c.in_ok-length.ensures.value o.1 rest r.1) in
    let fv : FitsSigned w64 c.in_ok-length.length = search rules in
    subst (λ o. Carried o c.args.world.now.state c.snset.new.self.state c.snset.result) (sym given)
    (rw (to_z-of_z fv, r.0) at (c.snset.ensures part).0)

pub returns-clause-tables : goal.returns-clause-tables
returns-clause-tables c = (c.snset.ensures some_part).1.0

pub returns-clause-stop : goal.returns-clause-stop
returns-clause-stop c = (c.snset.ensures some_part).1.1

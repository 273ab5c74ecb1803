use Rattle.std.proofs.Common.{refl, sym, subst, rules, FitsSigned, w64, to_z-of_z}
use Rattle.std.proofs.lemmas.Result.{err_from_is_err_and}
use Rattle.std.specs.Int.{w16}
use Rattle.vcm_spec.specs.Setup.{setup_of}
use Rattle.vcm_state.specs.Carried.{Carried}
use Rattle.vcm_fields.specs.Readers.{variable_at, three_at}
use Rattle.vcm_fields.proofs.Taking.{number_there, both_are}
use Rattle.vcm_machine.proofs.Effects.{trans_stops, trans_goes}
use Rattle.vcm_machine.proofs.LoopBranches.{some_part}
use Rattle.vcm_machine.proofs.Reading.{known_first}
use Rattle.vcm_machine.proofs.framing.shift.Goals as goal

pub known_short-frame-requires : goal.known_short-frame-requires
known_short-frame-requires c = number_there w16 _ _ (both_are variable_at three_at _ _ _ c.requires.2).1

pub returns-in_err-by-clause-carried : goal.returns-in_err-by-clause-carried
returns-in_err-by-clause-carried c part =
    let p = err_from_is_err_and c.from_residual.result c.from_residual.ensures.1 in
    rw (p.1, p.2) (λ o rest h.
    let r = known_first variable_at three_at _ o rest _ c.known_short-frame.ensures h in
    (trans_stops (setup_of part c.args.world.now.tables) c.args.world.now.state o.1.0 o.1.1.0 o.1.1.1 o.0 _ (c.in_err-by.ensures.fault o.1 rest r.1), refl))

pub returns-clause-carried : goal.returns-clause-carried
returns-clause-carried c part o rest h =
    let r = known_first variable_at three_at _ o rest _ c.known_short-frame.ensures h in
    let all = trans_goes (setup_of part c.args.world.now.tables) c.args.world.now.state o.1.0 o.1.1.0 o.1.1.1 o.0 _ (c.in_ok-by.ensures.lengths o.1 rest r.1).0 in
    let fx : FitsSigned w64 c.in_ok-by.by.x = search rules in
    let fy : FitsSigned w64 c.in_ok-by.by.y = search rules in
    let fz : FitsSigned w64 c.in_ok-by.by.z = search rules in
    subst (λ o. Carried o c.args.world.now.state c.trans.new.self.state c.trans.result) (sym all)
    (rw (to_z-of_z fx, to_z-of_z fy, to_z-of_z fz, r.0) at (c.trans.ensures part).0)

pub returns-clause-tables : goal.returns-clause-tables
returns-clause-tables c = (c.trans.ensures some_part).1.0

pub returns-clause-stop : goal.returns-clause-stop
returns-clause-stop c = (c.trans.ensures some_part).1.1

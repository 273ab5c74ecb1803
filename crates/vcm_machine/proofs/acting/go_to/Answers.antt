use Rattle.std.proofs.Common.{refl, sym, subst, rules, FitsSigned, w64, to_z-of_z}
use Rattle.std.proofs.lemmas.Result.{err_from_is_err_and}
use Rattle.vcm_spec.specs.Setup.{setup_of}
use Rattle.vcm_state.specs.Carried.{Carried}
use Rattle.vcm_machine.proofs.Effects.{goto_stops, goto_goes}
use Rattle.vcm_machine.proofs.acting.go_to.Goals as goal

pub returns-in_err-to-clause-carried : goal.returns-in_err-to-clause-carried
returns-in_err-to-clause-carried g c =
    let p = err_from_is_err_and c.from_residual.result c.from_residual.ensures.1 in
    rw (p.1, p.2) (λ o rest h. (goto_stops (setup_of (g.P.Part.part c.args.part.now) c.args.world.now.tables) c.args.world.now.state o.0 o.1.0 o.1.1 _ (c.in_err-to.ensures.fault o rest h), refl))

pub returns-clause-carried : goal.returns-clause-carried
returns-clause-carried g c o rest h =
    let all = goto_goes (setup_of (g.P.Part.part c.args.part.now) c.args.world.now.tables) c.args.world.now.state o.0 o.1.0 o.1.1 _ (c.in_ok-to.ensures.lengths o rest h).0 in
    let fx : FitsSigned w64 c.in_ok-to.to.x = search rules in
    let fy : FitsSigned w64 c.in_ok-to.to.y = search rules in
    let fz : FitsSigned w64 c.in_ok-to.to.z = search rules in
    subst (λ o. Carried o c.args.world.now.state c.goto.new.self.state c.goto.result) (sym all)
    (rw (to_z-of_z fx, to_z-of_z fy, to_z-of_z fz) at c.goto.ensures.0)

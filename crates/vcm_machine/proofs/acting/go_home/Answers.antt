use Rattle.std.proofs.Common.{sym, subst}
use Rattle.vcm_spec.specs.Setup.{setup_of}
use Rattle.vcm_state.specs.Carried.{Carried}
use Rattle.vcm_machine.proofs.Evaluating.{home_effect}
use Rattle.vcm_machine.proofs.acting.go_home.Goals as goal

pub returns-clause-carried : goal.returns-clause-carried
returns-clause-carried g c =
    let home = home_effect (setup_of (g.P.Part.part c.args.part.now) c.args.world.now.tables) c.args.world.now.state in
    subst (λ o. Carried o c.args.world.now.state c.go_home.new.self.state c.go_home.result) (sym home) c.go_home.ensures.0

use Rattle.std.proofs.Common.{ℕ, List, ap, sym, ◌∙◌, subst}
use Rattle.std.specs.Int.{w16}
use Rattle.vcm_spec.specs.Setup.{setup_of}
use Rattle.vcm_state.specs.Carried.{Carried}
use Rattle.vcm_fields.proofs.Inverse.{ok_is}
use Rattle.vcm_fields.proofs.Taking.{number_there}
use Rattle.vcm_machine.proofs.Effects.{recall_effect}
use Rattle.vcm_machine.proofs.LoopBranches.{some_part}
use Rattle.vcm_machine.proofs.framing.recall.Goals as goal

pub known_short-frame-requires : goal.known_short-frame-requires
known_short-frame-requires c = number_there w16 _ _ c.requires.2

pub returns-clause-carried : goal.returns-clause-carried
returns-clause-carried c part frame rest h =
    let there = ap (λ (t : ℕ × List ℕ). t.0) (ok_is _ _ (sym c.known_short-frame.ensures ∙ h)) in
    let is = recall_effect (setup_of part c.args.world.now.tables) c.args.world.now.state frame in
    subst (λ o. Carried o c.args.world.now.state c.recall.new.self.state c.recall.result) (sym is) (rw there at (c.recall.ensures part).0)

pub returns-clause-tables : goal.returns-clause-tables
returns-clause-tables c = (c.recall.ensures some_part).1.0

pub returns-clause-stop : goal.returns-clause-stop
returns-clause-stop c = (c.recall.ensures some_part).1.1

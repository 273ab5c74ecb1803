use Rattle.std.proofs.Common.{sym, subst}
use Rattle.vcm_spec.specs.Setup.{setup_of}
use Rattle.vcm_state.specs.Carried.{CarriedOrHalted}
use Rattle.vcm_machine.proofs.Evaluating.{text_effect}
use Rattle.vcm_machine.proofs.LoopBranches.{some_part}
use Rattle.vcm_machine.proofs.acting.print.Goals as goal

pub returns-clause-carried : goal.returns-clause-carried
returns-clause-carried c part t rest h =
    let said = text_effect (setup_of part c.args.world.now.tables) c.args.world.now.state t in
    subst (λ o. CarriedOrHalted o c.args.world.now.state c.text.new.self.state c.text.result) (sym said)
    (rw (c.as_bytes.ensures, c.known_text.ensures t rest h) at (c.text.ensures part)).0

pub returns-clause-tables : goal.returns-clause-tables
returns-clause-tables c = (c.text.ensures some_part).1.0

pub returns-clause-stop : goal.returns-clause-stop
returns-clause-stop c = (c.text.ensures some_part).1.1

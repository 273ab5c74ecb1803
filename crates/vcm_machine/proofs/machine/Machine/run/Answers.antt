use Rattle.std.proofs.Common.{sym}
use Rattle.vcm_machine.proofs.RunLemmas.{goes, stops}
use Rattle.vcm_machine.proofs.machine.Machine.run.Goals as goal

pub returns-in-Some : goal.returns-in-Some
returns-in-Some g c = stops c.args.n c.args.self.now c.loop-done.self c.loop-done.done c.loop-done.invariant _ (sym c.in-Some.ensures)

pub loop-done-preserved : goal.loop-done-preserved
loop-done-preserved g c =
    goes c.args.n c.args.self.now c.loop-done.self c.loop-done.done c.loop-done.invariant c.go_on.new.self c.loop-done-test.true (sym c.in-None.ensures) c.in-Ok.ensures.ok

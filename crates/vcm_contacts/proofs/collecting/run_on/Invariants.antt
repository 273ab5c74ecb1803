use Rattle.std.proofs.Common.{◌-◌, ◌≤◌}
use Rattle.std.specs.Prelude.{map}
use Rattle.vcm_contacts.specs.Noted.{seen}
use Rattle.vcm_contacts.specs.inner.Standing.{HasPassed}
use Rattle.vcm_contacts.proofs.collecting.run_on.Given as goal

abbrev pub invariant-loop-done : goal.invariant-loop-done
invariant-loop-done g l = record {
  passed : HasPassed l.source l.fn.machine.part l.loaded l.done l.machine (map seen l.notes.found.items) l.notes.rounds;
  few : l.done ≤ l.steps;
}

abbrev pub decreases-loop-done : goal.decreases-loop-done
decreases-loop-done g l = l.steps - l.done

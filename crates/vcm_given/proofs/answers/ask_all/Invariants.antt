use Rattle.std.proofs.Common.{◌≡◌, ◌++◌, false, drop}
use Rattle.vcm_given.specs.Chosen.{asked_from}
use Rattle.vcm_given.proofs.answers.ask_all.Given as goal

abbrev pub invariant-loop-logical : goal.invariant-loop-logical
invariant-loop-logical l = record {
  left : asked_from l.answers false l.lines ≡ l.out.items ++ asked_from l.answers l.own (drop l.logical-index l.lines);
}

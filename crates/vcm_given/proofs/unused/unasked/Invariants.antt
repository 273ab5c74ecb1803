use Rattle.std.proofs.Common.{◌≡◌, drop}
use Rattle.vcm_given.specs.Unused.{unasked}
use Rattle.vcm_given.proofs.unused.unasked.Given as goal

abbrev pub invariant-loop-answer : goal.invariant-loop-answer
invariant-loop-answer l = record {
  left : unasked l.all l.answers ≡ unasked l.all (drop l.answer-index l.answers);
}

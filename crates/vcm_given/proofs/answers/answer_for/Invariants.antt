use Rattle.std.proofs.Common.{◌≡◌, drop}
use Rattle.vcm_given.specs.Chosen.{answer_for}
use Rattle.vcm_given.proofs.answers.answer_for.Given as goal

abbrev pub invariant-loop-answer : goal.invariant-loop-answer
invariant-loop-answer l = record {
  left : answer_for l.name l.answers ≡ answer_for l.name (drop l.answer-index l.answers);
}

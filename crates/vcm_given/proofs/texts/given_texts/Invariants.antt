use Rattle.std.proofs.Common.{◌≡◌, ◌++◌, drop}
use Rattle.vcm_given.specs.Texts.{given_texts}
use Rattle.vcm_given.proofs.texts.given_texts.Given as goal

abbrev pub invariant-loop-answer : goal.invariant-loop-answer
invariant-loop-answer l = record {
  left : given_texts l.answers ≡ l.out ++ given_texts (drop l.answer-index l.answers);
}

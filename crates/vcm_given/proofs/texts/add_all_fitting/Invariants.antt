use Rattle.std.proofs.Common.{◌≡◌, ◌++◌, drop}
use Rattle.std.specs.List.{flat_map}
use Rattle.vcm_given.specs.Texts.{fitting}
use Rattle.vcm_given.proofs.texts.add_all_fitting.Given as goal

abbrev pub invariant-loop-answer : goal.invariant-loop-answer
invariant-loop-answer l = record {
  left : l.fn.out ++ flat_map (fitting l.texts) l.answers ≡ l.out ++ flat_map (fitting l.texts) (drop l.answer-index l.answers);
}

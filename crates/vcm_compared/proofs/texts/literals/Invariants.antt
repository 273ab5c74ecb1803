use Rattle.std.proofs.Common.{◌≡◌, drop}
use Rattle.vcm_compared.specs.Texts.{literals, with_given}
use Rattle.vcm_compared.proofs.texts.literals.Given as goal

abbrev pub invariant-loop-text : goal.invariant-loop-text
invariant-loop-text l = record {
  left : literals l.given l.lines ≡ with_given l.out (drop l.text-index l.given);
}

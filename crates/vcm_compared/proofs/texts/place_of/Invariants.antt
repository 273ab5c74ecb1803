use Rattle.std.proofs.Common.{◌≡◌, drop}
use Rattle.vcm_compared.specs.Texts.{place_of}
use Rattle.vcm_compared.proofs.texts.place_of.Given as goal

abbrev pub invariant-loop-other : goal.invariant-loop-other
invariant-loop-other l = record {
  left : place_of 1 l.all l.text ≡ place_of l.place (drop l.other-index l.all) l.text;
}

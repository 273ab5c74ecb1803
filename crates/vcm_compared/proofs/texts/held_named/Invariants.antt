use Rattle.std.proofs.Common.{◌≡◌, drop}
use Rattle.vcm_compared.specs.Texts.{held_named}
use Rattle.vcm_compared.proofs.texts.held_named.Given as goal

abbrev pub invariant-loop-held : goal.invariant-loop-held
invariant-loop-held l = record {
  left : held_named l.name l.all ≡ held_named l.name (drop l.held-index l.all);
}

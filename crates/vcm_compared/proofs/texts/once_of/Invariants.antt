use Rattle.std.proofs.Common.{◌≡◌, ◌++◌, drop}
use Rattle.std.specs.List.{filter}
use Rattle.vcm_compared.specs.Texts.{is_once}
use Rattle.vcm_compared.proofs.texts.once_of.Given as goal

abbrev pub invariant-loop-held : goal.invariant-loop-held
invariant-loop-held l = record {
  left : filter (is_once l.all) l.all ≡ l.out ++ filter (is_once l.all) (drop l.held-index l.all);
}

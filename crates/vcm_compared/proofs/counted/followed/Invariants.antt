use Rattle.std.proofs.Common.{◌≡◌, ◌++◌, drop}
use Rattle.std.specs.List.{filter}
use Rattle.vcm_compared.specs.Counted.{is_followed}
use Rattle.vcm_compared.proofs.counted.followed.Given as goal

abbrev pub invariant-loop-held : goal.invariant-loop-held
invariant-loop-held l = record {
  left : filter (is_followed l.texts l.lines) l.texts.held ≡ l.out ++ filter (is_followed l.texts l.lines) (drop l.held-index l.texts.held);
}

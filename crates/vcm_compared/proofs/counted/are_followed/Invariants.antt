use Rattle.std.proofs.Common.{◌≡◌, drop}
use Rattle.std.specs.List.{list_all}
use Rattle.vcm_compared.specs.Counted.{is_followed}
use Rattle.vcm_compared.proofs.counted.are_followed.Given as goal

abbrev pub invariant-loop-held : goal.invariant-loop-held
invariant-loop-held l = record {
  left : list_all (is_followed l.texts l.lines) l.texts.held ≡ list_all (is_followed l.texts l.lines) (drop l.held-index l.texts.held);
}

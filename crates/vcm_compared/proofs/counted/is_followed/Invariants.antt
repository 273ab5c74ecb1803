use Rattle.std.proofs.Common.{◌≡◌, drop}
use Rattle.std.specs.List.{list_all}
use Rattle.vcm_compared.specs.Counted.{follows}
use Rattle.vcm_compared.proofs.counted.is_followed.Given as goal

abbrev pub invariant-loop-logical : goal.invariant-loop-logical
invariant-loop-logical l = record {
  left : list_all (follows l.texts l.lines l.name) l.lines ≡ list_all (follows l.texts l.lines l.name) (drop l.logical-index l.lines);
}

use Rattle.std.specs.List.{AllByRecursion}
use Rattle.vcm_picture.specs.inner.Strips.{IsStrip}
use Rattle.vcm_picture.proofs.strips.strips_of.Given as goal

abbrev pub invariant-loop-index : goal.invariant-loop-index
invariant-loop-index l = record {
  strips : AllByRecursion (IsStrip l.all) l.strips.items;
}

use Rattle.std.proofs.Common.{◌≡◌, drop}
use Rattle.vcm_certain.specs.Certain.{are_sure}
use Rattle.vcm_certain.specs.inner.Knowing.{known}
use Rattle.vcm_certain.proofs.certain.are_sure.Given as goal

abbrev pub invariant-loop-placed : goal.invariant-loop-placed
invariant-loop-placed l = record {
  left : are_sure l.frames l.indices (known l.sure) (drop l.placed-index l.all) ≡ are_sure l.frames l.indices (known l.initial.sure) l.all;
}

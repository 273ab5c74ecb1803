use Rattle.std.proofs.Common.{take}
use Rattle.std.specs.List.{All}
use Rattle.vcm_cover.specs.inner.Regions.{IsAside}
use Rattle.vcm_cover.proofs.region.is_clear.Given as goal

abbrev pub invariant-loop-block : goal.invariant-loop-block
invariant-loop-block l = All (IsAside l.region) (take l.block-index l.blocks)

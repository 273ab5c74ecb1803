use Rattle.std.proofs.Common.{take, ◌≤ℤ◌}
use Rattle.std.specs.List.{All}
use Rattle.vcm_num.specs.Point.{coordinate}
use Rattle.vcm_cover.proofs.region.are_from.Given as goal

abbrev pub invariant-loop-block : goal.invariant-loop-block
invariant-loop-block l = All (λ block. l.at ≤ℤ coordinate block.low l.axis) (take l.block-index l.blocks)

use Rattle.std.proofs.Common.{take, ◌≤ℤ◌}
use Rattle.std.specs.List.{All}
use Rattle.vcm_num.specs.Point.{coordinate}
use Rattle.vcm_cover.proofs.region.are_up_to.Given as goal

abbrev pub invariant-loop-block : goal.invariant-loop-block
invariant-loop-block l = All (λ block. coordinate block.high l.axis ≤ℤ l.at) (take l.block-index l.blocks)

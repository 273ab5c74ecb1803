use Rattle.std.proofs.Common.{◌≡◌, drop}
use Rattle.vcm_cause.specs.Ahead.{nearest_of, ahead}
use Rattle.vcm_cause.proofs.ahead.block_ahead.Given as goal

abbrev pub invariant-loop-block : goal.invariant-loop-block
invariant-loop-block l = record {
  count : l.number ≡ l.block-index;
  so_far : nearest_of l.tip l.from l.to l.found l.number (drop l.block-index l.part.blocks) ≡ ahead l.part l.from l.to;
}

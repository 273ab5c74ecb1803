use Rattle.std.proofs.Common.{◌≡◌, ◌+◌, drop}
use Rattle.vcm_place.specs.Placed.{first_far}
use Rattle.vcm_place.proofs.placing.first_far.Given as goal

abbrev pub invariant-loop-block : goal.invariant-loop-block
invariant-loop-block l = record {
  number : l.number ≡ l.block-index + 1;
  rest : first_far l.number (drop l.block-index l.blocks) ≡ first_far 1 l.blocks;
}

use Rattle.std.proofs.Common.{◌≡◌, ◌++◌, ◌∷◌, drop}
use Rattle.vcm_probe_set.specs.Bodies.{blocks_named}
use Rattle.vcm_probe_set.proofs.body.blocks_from.Given as goal

abbrev pub invariant-loop-one : goal.invariant-loop-one
invariant-loop-one l = l.blocks.items ++ blocks_named l.first.name (drop l.one-index l.others) ≡ l.first.block ∷ blocks_named l.first.name l.others

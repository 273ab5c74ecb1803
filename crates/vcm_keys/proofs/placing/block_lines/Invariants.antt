use Rattle.std.proofs.Common.{◌≡◌, ◌++◌, drop}
use Rattle.vcm_keys.specs.Places.{block_lines}
use Rattle.vcm_keys.proofs.placing.block_lines.Given as goal

abbrev pub invariant-loop-place : goal.invariant-loop-place
invariant-loop-place l = l.lines.items ++ block_lines (drop l.place-index l.places) ≡ block_lines l.places

use Rattle.std.proofs.Common.{◌≡◌, drop}
use Rattle.vcm_keys.specs.Places.{line_of}
use Rattle.vcm_keys.proofs.placing.line_of.Given as goal

abbrev pub invariant-loop-place : goal.invariant-loop-place
invariant-loop-place l = line_of l.block l.key (drop l.place-index l.places) ≡ line_of l.block l.key l.places

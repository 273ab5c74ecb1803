use Rattle.std.proofs.Common.{◌≡◌, ◌++◌, drop}
use Rattle.std.specs.List.{flat_map}
use Rattle.vcm_whole.specs.Frames.{named_on, named_frames}
use Rattle.vcm_whole.proofs.frames.named_frames.Given as goal

abbrev pub invariant-loop-statement : goal.invariant-loop-statement
invariant-loop-statement l = record { left : named_frames l.all ≡ l.frames ++ flat_map (named_on l.all) (drop l.statement-index l.all) }

use Rattle.std.proofs.Common.{◌≡◌, ◌++◌, drop}
use Rattle.vcm_hardware.specs.ProbeFile.{heads_text}
use Rattle.vcm_hardware.proofs.writing.put_heads.Given as goal

abbrev pub invariant-loop-still : goal.invariant-loop-still
invariant-loop-still l = record { bytes : l.out.items ++ heads_text l.centre (drop l.still-index l.heads) ≡ l.fn.out.items ++ heads_text l.centre l.heads }

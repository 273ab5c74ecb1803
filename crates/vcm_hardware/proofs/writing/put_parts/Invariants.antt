use Rattle.std.proofs.Common.{◌≡◌, ◌++◌, drop}
use Rattle.vcm_hardware.specs.ProbeFile.{parts_text}
use Rattle.vcm_hardware.proofs.writing.put_parts.Given as goal

abbrev pub invariant-loop-part : goal.invariant-loop-part
invariant-loop-part l = record { bytes : l.out.items ++ parts_text l.turning l.tip (drop l.part-index l.parts) ≡ l.fn.out.items ++ parts_text l.turning l.tip l.parts }

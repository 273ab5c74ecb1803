use Rattle.std.proofs.Common.{◌≡◌, ◌++◌, drop}
use Rattle.vcm_sheet.specs.Written.{written}
use Rattle.vcm_sheet.proofs.names.put_name.Given as goal

abbrev pub invariant-loop-byte : goal.invariant-loop-byte
invariant-loop-byte l = record { bytes : l.out.items ++ written (drop l.byte-index l.name) ≡ l.fn.out.items ++ written l.name }

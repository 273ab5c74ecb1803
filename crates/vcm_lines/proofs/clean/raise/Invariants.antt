use Rattle.std.proofs.Common.{◌≡◌, ◌++◌, take, drop}
use Rattle.std.specs.Prelude.{map}
use Rattle.vcm_lines.specs.Bytes.{upper}
use Rattle.vcm_lines.proofs.clean.raise.Given as goal

-- The bytes before the index are raised, and those from it on are as they were.
abbrev pub invariant-loop-b : goal.invariant-loop-b
invariant-loop-b l = l.bytes ≡ map upper (take l.b-index l.fn.bytes) ++ drop l.b-index l.fn.bytes

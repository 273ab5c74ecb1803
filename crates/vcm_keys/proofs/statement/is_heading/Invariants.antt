use Rattle.std.proofs.Common.{◌≡◌, drop}
use Rattle.vcm_keys.specs.Statements.{is_heading}
use Rattle.vcm_keys.proofs.statement.is_heading.Given as goal

abbrev pub invariant-loop-byte : goal.invariant-loop-byte
invariant-loop-byte l = is_heading (drop l.byte-index l.text) ≡ is_heading l.text

use Rattle.std.proofs.Common.{◌≡◌, drop}
use Rattle.std.specs.Prelude.{◌&&◌}
use Rattle.std.specs.List.{list_all}
use Rattle.vcm_lines.specs.Bytes.{is_inner}
use Rattle.vcm_lines.proofs.clean.all_inner.Given as goal

-- The bytes so far and those that are left may stand in a text where all may.
abbrev pub invariant-loop-b : goal.invariant-loop-b
invariant-loop-b l = (l.all && list_all is_inner (drop l.b-index l.bytes)) ≡ list_all is_inner l.bytes

use Rattle.std.proofs.Common.{◌≡◌, ◌++◌, drop}
use Rattle.vcm_untried.specs.Lines.{missing_text}
use Rattle.vcm_untried.proofs.lines.put_all_missing.Given as goal

abbrev pub invariant-loop-row : goal.invariant-loop-row
invariant-loop-row l = record { bytes : l.out.items ++ missing_text l.frames (drop l.row-index l.rows) ≡ l.fn.out.items ++ missing_text l.frames l.rows }

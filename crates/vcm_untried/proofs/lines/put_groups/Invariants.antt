use Rattle.std.proofs.Common.{◌≡◌, ◌++◌, drop}
use Rattle.vcm_untried.specs.Lines.{groups_text}
use Rattle.vcm_untried.proofs.lines.put_groups.Given as goal

abbrev pub invariant-loop-group : goal.invariant-loop-group
invariant-loop-group l = record { bytes : l.out.items ++ groups_text l.frames l.rows (drop l.group-index l.groups) ≡ l.fn.out.items ++ groups_text l.frames l.rows l.groups }

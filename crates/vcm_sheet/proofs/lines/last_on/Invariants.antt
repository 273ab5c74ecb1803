use Rattle.std.proofs.Common.{◌≡◌, drop}
use Rattle.vcm_sheet.specs.Lines.{last_on}
use Rattle.vcm_sheet.proofs.lines.last_on.Given as goal

abbrev pub invariant-loop-placed : goal.invariant-loop-placed
invariant-loop-placed l = record { is : last_on l.lines l.is_on (drop l.placed-index l.marks) ≡ last_on l.lines l.fn.before l.marks }

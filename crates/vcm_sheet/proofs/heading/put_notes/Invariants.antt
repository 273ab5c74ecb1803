use Rattle.std.proofs.Common.{take}
use Rattle.std.specs.Prelude.{flat_map}
use Rattle.vcm_sheet.specs.Heading.{note_line}
use Rattle.vcm_sheet.specs.Sayings.{Adds}
use Rattle.vcm_sheet.proofs.heading.put_notes.Given as goal

abbrev pub invariant-loop-line : goal.invariant-loop-line
invariant-loop-line l = record { rows : Adds (flat_map (λ line. note_line line.items) (take l.line-index l.lines)) l.fn.out.items l.out.items }

use Rattle.vcm_sheet.specs.Sayings.{Adds}
use Rattle.vcm_sheet.specs.Tables.{heads_before}
use Rattle.vcm_sheet.proofs.rows.put_heads.Given as goal

abbrev pub invariant-loop-index : goal.invariant-loop-index
invariant-loop-index l = record { heads : Adds (heads_before l.rows l.index) l.fn.out.items l.out.items }

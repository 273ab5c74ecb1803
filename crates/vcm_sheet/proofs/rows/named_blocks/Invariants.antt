use Rattle.std.proofs.Common.{◌≡◌, map}
use Rattle.vcm_sheet.specs.Tables.{named_before}
use Rattle.vcm_sheet.proofs.rows.named_blocks.Given as goal

abbrev pub invariant-loop-index : goal.invariant-loop-index
invariant-loop-index l = record { blocks : l.blocks.items ≡ named_before (map (λ n. n.items) l.names) l.index }

-- In which order the parser's functions call one another on the same words.
use Rattle.std.proofs.Common.{ℕ}
use Rattle.vcm_expr.specs.declared.levels.Front.{Front}
use Rattle.vcm_expr.specs.declared.levels.Front.TheVariants.{Negation, Sign}

-- what signs stand before
abbrev pub under_rank : Front → ℕ
under_rank Negation = 8
under_rank Sign = 1

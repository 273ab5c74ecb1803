-- What makes a code valid, so that a machine can carry it out without a test.
use Rattle.std.specs.Prelude.{List, [], ◌∷◌}
use Rattle.vcm_code.specs.Code.{CodeStatement}
use Rattle.vcm_code.specs.declared.code.Code.{Code}
use Rattle.vcm_code.specs.declared.op.Op.{Op as Kept}
use Rattle.vcm_code.specs.declared.op.Op.TheVariants.{EndFil}
use Rattle.vcm_code.specs.Checks.{AllHold, checks}

-- it is ENDFIL, however the expressions, the texts and the branches of statements are kept
abbrev pub IsLast : {E T B : Type 0} → Kept E T B → Type 0
IsLast EndFil = Unit {0}
IsLast _ = ⊥

-- there is a last statement, and it is ENDFIL
abbrev pub Ends : List CodeStatement → Type 0
Ends [] = ⊥
Ends (s ∷ []) = IsLast s.op
Ends (s ∷ t ∷ ss) = Ends (t ∷ ss)

-- a valid code: all its checks hold, and its last statement is ENDFIL
pub record IsValid (c : Code) : Type 0 where
  pub fit : AllHold (checks c)
  pub ends : Ends c.statements

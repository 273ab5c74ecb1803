-- Statements with another target.
use Rattle.std.specs.Prelude.{◌≡◌, ℕ, List, ◌∷◌, ◌++◌, length}
use Rattle.vcm_code.specs.declared.op.Op.TheVariants.{If, Else, Do}
use Rattle.vcm_code.specs.Code.{Op, CodeStatement, statement}

abbrev pub op_to : Op → ℕ → Op
op_to (If test t) n = If test n
op_to (Else t) n = Else n
op_to (Do v p a b c t) n = Do v p a b c n
op_to op n = op

abbrev pub with_target : CodeStatement → ℕ → CodeStatement
with_target s n = statement s.line (op_to s.op n)

-- the target of the statement at an index is written again
abbrev pub Retargets : List CodeStatement → ℕ → ℕ → List CodeStatement → Type 0
Retargets old index target new =
    (before after : List CodeStatement) (s : CodeStatement) → old ≡ before ++ s ∷ after → index ≡ length before
    → new ≡ before ++ with_target s target ∷ after

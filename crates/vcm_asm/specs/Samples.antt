-- The statements of worked examples: targets, pairs and source lines.
use Rattle.std.specs.Prelude.{◌≡◌, refl, true, ℕ, ℤ, pos, List, [], ◌∷◌, codes}
use Rattle.vcm_spec.specs.declared.expression.Operand.TheVariants.{Integer, Truth, Variable}
use Rattle.vcm_spec.specs.declared.expression.Relation.TheVariants.{Equal}
use Rattle.vcm_spec.specs.declared.expression.BinaryOp.TheVariants.{Add, Compare}
use Rattle.vcm_spec.specs.declared.expression.Item.{Item}
use Rattle.vcm_spec.specs.declared.expression.Item.TheVariants.{Push, Combine}
use Rattle.vcm_spec.specs.declared.simple.Simple.TheVariants.{Assign, Text}
use Rattle.vcm_spec.specs.Samples.Parts.{int}
use Rattle.vcm_spec.specs.Expression.{Value}
use Rattle.vcm_spec.specs.Samples.Numbers.{chosen}
use Rattle.vcm_spec.specs.Samples.Loops.{counted, again, past_loop, selections, no_block}
use Rattle.vcm_code.specs.declared.branch.Branch.{Branch}
use Rattle.vcm_code.specs.declared.version.Version.TheVariants.{One, Two}
use Rattle.vcm_code.specs.declared.op.Op.TheVariants.{Plain, If, Else, EndIf, Do, EndDo, Label, JumpTo, Select, Case, EndCas, DftCas, EndSel, EndFil}
use Rattle.vcm_code.specs.Code.{statement}
use Rattle.vcm_code.specs.Ranges.{version_for}
use Rattle.vcm_asm.specs.Assembled.{flat_code}

-- a whole number as an expression
abbrev whole : ℤ → List Item
whole n = Push (Integer n) ∷ []

-- a loop of three rounds
pub three_rounds : flat_code (counted (int 1) (int 3) (int 1)) ≡
    statement 4 (Do 0 0 (whole (pos 1)) (whole (pos 3)) (whole (pos 1)) 3)
    ∷ statement 5 (Plain (Text (codes "A")))
    ∷ statement 6 (EndDo 0 0 1)
    ∷ statement 7 EndFil ∷ []
three_rounds = refl

-- a loop in a loop, with a jump out of both
pub begun_again : flat_code again ≡
    statement 4 Label
    ∷ statement 5 (Do 0 0 (whole (pos 1)) (whole (pos 2)) (whole (pos 1)) 10)
    ∷ statement 6 (Do 1 1 (whole (pos 1)) (Push (Integer (pos 2)) ∷ Push (Variable 2) ∷ Combine Add ∷ []) (whole (pos 1)) 9)
    ∷ statement 7 (If (Push (Variable 2) ∷ Push (Integer (pos 0)) ∷ Combine (Compare Equal) ∷ []) 6)
    ∷ statement 8 (Plain (Assign 2 (whole (pos 1))))
    ∷ statement 9 (JumpTo 0)
    ∷ statement 10 EndIf
    ∷ statement 11 (Plain (Text (codes "X")))
    ∷ statement 12 (EndDo 1 1 3)
    ∷ statement 13 (EndDo 0 0 2)
    ∷ statement 14 EndFil ∷ []
begun_again = refl

-- a jump out of a loop to a label past it
pub jumped_past : flat_code past_loop ≡
    statement 4 (Do 0 0 (whole (pos 1)) (whole (pos 5)) (whole (pos 1)) 3)
    ∷ statement 5 (JumpTo 3)
    ∷ statement 6 (EndDo 0 0 1)
    ∷ statement 7 Label
    ∷ statement 8 EndFil ∷ []
jumped_past = refl

-- a choice with ELSE
pub two_blocks : flat_code (chosen (Value (Truth true))) ≡
    statement 3 (If (Push (Truth true) ∷ []) 3)
    ∷ statement 4 (Plain (Text (codes "A")))
    ∷ statement 5 (Else 5)
    ∷ statement 6 (Plain (Text (codes "B")))
    ∷ statement 7 EndIf
    ∷ statement 8 EndFil ∷ []
two_blocks = refl

-- a branch to a statement
abbrev branch : ℤ → ℕ → Branch
branch value target = record { value = value; target = target }

-- a SELECT with two CASE blocks and one for all else, in a loop
pub four_rounds : flat_code selections ≡
    statement 4 (Do 0 0 (whole (pos 1)) (whole (pos 4)) (whole (pos 1)) 13)
    ∷ statement 5 (Select (Push (Variable 0) ∷ []) (branch (pos 1) 3 ∷ branch (pos 3) 6 ∷ []) 9)
    ∷ statement 6 Case
    ∷ statement 7 (Plain (Text (codes "ONE")))
    ∷ statement 8 (EndCas 12)
    ∷ statement 9 Case
    ∷ statement 10 (Plain (Text (codes "THREE")))
    ∷ statement 11 (EndCas 12)
    ∷ statement 12 DftCas
    ∷ statement 13 (Plain (Text (codes "ELSE")))
    ∷ statement 14 (EndCas 12)
    ∷ statement 15 EndSel
    ∷ statement 16 (EndDo 0 0 1)
    ∷ statement 17 EndFil ∷ []
four_rounds = refl

-- a SELECT without blocks goes to its ENDSEL
pub to_its_end : flat_code no_block ≡ statement 3 (Select (whole (pos 5)) [] 1) ∷ statement 4 EndSel ∷ statement 5 EndFil ∷ []
to_its_end = refl

-- the version of a code
pub second_version : version_for (flat_code selections) ≡ Two
second_version = refl

pub first_version : version_for (flat_code again) ≡ One
first_version = refl

-- Statements whose expressions and texts are kept in any form, with the lists that these are.
use Rattle.std.specs.Prelude.{ℕ, List}
use Rattle.vcm_spec.specs.declared.expression.Item.{Item}
use Rattle.vcm_spec.specs.Simple.{with_forms}
use Rattle.vcm_code.specs.declared.op.Op.{Op as Kept}
use Rattle.vcm_code.specs.declared.op.CodeStatement.{CodeStatement as KeptStatement}
use Rattle.vcm_code.specs.declared.branch.Branch.{Branch}
use Rattle.vcm_code.specs.Code.{Op, CodeStatement}
use Rattle.vcm_code.specs.declared.op.Op.TheVariants.{Plain, If, Else, EndIf, Do, EndDo, Label, JumpTo, Meas, EndMes, Select, Case, EndCas, DftCas, EndSel}
use Rattle.vcm_code.specs.declared.op.Op.TheVariants.{EndFil}

-- what a statement does, where these are the items of an expression, the bytes of a text and the branches of a SELECT
abbrev pub listed : {E T B : Type 0} → (E → List Item) → (T → List ℕ) → (B → List Branch) → Kept E T B → Op
listed items bytes branches (Plain what) = Plain (with_forms items bytes what)
listed items bytes branches (If test target) = If (items test) target
listed items bytes branches (Else target) = Else target
listed items bytes branches EndIf = EndIf
listed items bytes branches (Do v p initial limit increment target) = Do v p (items initial) (items limit) (items increment) target
listed items bytes branches (EndDo v p target) = EndDo v p target
listed items bytes branches Label = Label
listed items bytes branches (JumpTo target) = JumpTo target
listed items bytes branches (Meas feature) = Meas feature
listed items bytes branches EndMes = EndMes
listed items bytes branches (Select value bs target) = Select (items value) (branches bs) target
listed items bytes branches Case = Case
listed items bytes branches (EndCas target) = EndCas target
listed items bytes branches DftCas = DftCas
listed items bytes branches EndSel = EndSel
listed items bytes branches EndFil = EndFil

-- a statement, so too
abbrev pub listed_statement : {E T B : Type 0} → (E → List Item) → (T → List ℕ) → (B → List Branch) → KeptStatement E T B → CodeStatement
listed_statement items bytes branches s = record { line = s.line; op = listed items bytes branches s.op }

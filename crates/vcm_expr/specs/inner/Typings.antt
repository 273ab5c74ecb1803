-- Operands that are typed and wait for what stands between them.
use Rattle.std.specs.Prelude.{◌≡◌, ◌⊎◌, List, [], ◌∷◌, length, Ok, Err}
use Rattle.vcm_lines.specs.declared.fault.FaultCode.{FaultCode}
use Rattle.vcm_spec.specs.declared.expression.Item.{Item}
use Rattle.vcm_spec.specs.Setup.{Variable}
use Rattle.vcm_expr.specs.declared.typing.OpenOperand.{OpenOperand}
use Rattle.vcm_expr.specs.Source.{Source}
use Rattle.vcm_expr.specs.Typing.{Kinded, typed_of}
use Rattle.vcm_expr.specs.inner.Trees.{Spelled}

-- the expressions of a stack, the topmost first, are typed and spelled one behind the other
abbrev pub AreTyped : List Variable → List Source → List OpenOperand → List Item → List Item → Type 0
AreTyped vs [] [] before now = now ≡ before
AreTyped vs (e ∷ es) (o ∷ os) before now =
    (mid : List Item) × Spelled (typed_of vs e) mid now o.kind × (o.start ≡ length mid) × AreTyped vs es os before mid
AreTyped vs [] (o ∷ os) before now = ⊥
AreTyped vs (e ∷ es) [] before now = ⊥

-- all of them are typed
abbrev pub AllTyped : List Variable → List Source → Type 0
AllTyped vs [] = Unit {0}
AllTyped vs (e ∷ es) = ((p : Kinded) × (typed_of vs e ≡ Ok p)) × AllTyped vs es

-- one of them has this fault, and those below it are typed
abbrev pub Fails : List Variable → FaultCode → List Source → Type 0
Fails vs code [] = ⊥
Fails vs code (e ∷ es) = ((typed_of vs e ≡ Err code) × AllTyped vs es) ⊎ Fails vs code es

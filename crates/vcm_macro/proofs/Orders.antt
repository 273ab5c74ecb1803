-- The order of statements, one more at a time.
use Rattle.std.proofs.Common.{◌≡◌, false, List, [], ◌∷◌, ◌++◌, Some, None, refl}
use Rattle.std.specs.Prelude.{not}
use Rattle.vcm_lines.specs.declared.fault.FaultCode.{FaultCode}
use Rattle.vcm_lines.specs.declared.fault.FaultCode.TheVariants.{BadOrder}
use Rattle.vcm_forms.specs.declared.statement.Statement.{Statement}
use Rattle.vcm_macro.specs.declared.order.Order.{Order}
use Rattle.vcm_macro.specs.Order.{nothing_before, order_behind, order_after, is_misplaced, BreaksOrder}
use Rattle.vcm_macro.proofs.Places.{never}

pub order_push : (o : Order) (ss : List Statement) (s : Statement) → order_after o (ss ++ s ∷ []) ≡ order_behind (order_after o ss) s
order_push o [] s = refl
order_push o (t ∷ ss) s = order_push (order_behind o t) ss s

-- a statement in its place breaks no rule
pub in_place : (before : List Statement) (s : Statement) → is_misplaced (order_after nothing_before before) s.form ≡ false → (code : FaultCode) → BreaksOrder before (Some s) code → ⊥
in_place before s e BadOrder b = never _ e b
in_place before s e _ b = b

-- an ENDFIL breaks no rule of the end
pub at_end : (ss : List Statement) → not (order_after nothing_before ss).ended ≡ false → (code : FaultCode) → BreaksOrder ss None code → ⊥
at_end ss e BadOrder b = never _ e b
at_end ss e _ b = b

-- A program has one answer.
use Rattle.std.proofs.Common.{◌≡◌, ℕ, List, take, slice_get, Option, Some, None, refl, sym, ap, ◌∙◌}
use Rattle.vcm_lines.specs.declared.fault.FaultCode.{FaultCode}
use Rattle.vcm_lines.specs.declared.fault.FaultCode.TheVariants.{BadOrder}
use Rattle.vcm_lines.specs.declared.fault.SourceFault.{SourceFault}
use Rattle.vcm_spec.proofs.PhaseLemmas.{clean_or_fault, one_line}
use Rattle.vcm_macro.specs.declared.placed.Placed.{Placed}
use Rattle.vcm_forms.specs.declared.statement.Statement.{Statement}
use Rattle.vcm_macro.specs.Order.{BreaksOrder, order_line}
use Rattle.vcm_macro.specs.Walk.{walk}
use Rattle.vcm_macro.specs.Rules.{BreaksMacros, macros_line}
use Rattle.vcm_macro.specs.Expansion.{IsExpanded, IsRefused, in_order, in_macros}
use Rattle.vcm_macro.proofs.Computing.{computed_fault}

pub either : (ss : List Statement) (all : List Placed) (f : SourceFault) → IsExpanded ss all → IsRefused ss f → ⊥
either ss all f e (in_order t) = clean_or_fault BreaksOrder order_line ss f.code f.line e.order t
either ss all f e (in_macros c t) = clean_or_fault BreaksMacros macros_line (walk ss) f.code f.line e.macros (computed_fault ss f t)

-- in the phase of order one code is told
only_order : (before : List Statement) (o : Option Statement) (code : FaultCode) → BreaksOrder before o code → code ≡ BadOrder
only_order before None BadOrder b = refl
only_order before (Some s) BadOrder b = refl
only_order before None _ b = absurd b
only_order before (Some s) _ b = absurd b

same_fault : (f g : SourceFault) → f.code ≡ g.code → f.line ≡ g.line → f ≡ g
same_fault f g c l = ap (λ (x : FaultCode). record { code = x; line = f.line }) c ∙ ap (λ (n : ℕ). record { code = g.code; line = n }) l

pub refusal : (ss : List Statement) (f g : SourceFault) → IsRefused ss f → IsRefused ss g → f ≡ g
refusal ss f g (in_order t) (in_order u) =
    same_fault f g (only_order (take t.place ss) (slice_get ss t.place) f.code t.broken
    ∙ sym (only_order (take u.place ss) (slice_get ss u.place) g.code u.broken)) (one_line BreaksOrder order_line ss f.code g.code f.line g.line t u)
refusal ss f g (in_macros c t) (in_macros d u) = let both : Some f ≡ Some g = sym t ∙ u in cc
refusal ss f g (in_order t) (in_macros d u) = absurd (clean_or_fault BreaksOrder order_line ss f.code f.line d t)
refusal ss f g (in_macros c t) (in_order u) = absurd (clean_or_fault BreaksOrder order_line ss g.code g.line c u)

pub expansion : (ss : List Statement) (all more : List Placed) → IsExpanded ss all → IsExpanded ss more → all ≡ more
expansion ss all more e f = e.is ∙ sym f.is

-- What is known of the statement that a machine takes next.
use Rattle.std.proofs.Common.{◌≡◌, ℕ, IfNone, sym, ap, ◌∙◌}
use Rattle.std.specs.Prelude.{Option, Some, None, slice_get}
use Rattle.vcm_code.specs.Code.{CodeStatement}
use Rattle.vcm_code.specs.declared.code.Code.{Code}
use Rattle.vcm_code.specs.CodeTable.{CodeState}
use Rattle.vcm_margin.specs.Alike.{measured_by, measures, measured}

-- what holds where there is none gives another thing there
pub if_none : {A : Type 0} (r : Option A) (P Q : Type 0) → (P → Q) → IfNone r P → IfNone r Q
if_none (Some x) P Q f h = tt
if_none None P Q f h = f h

-- the feature that it measures
pub measured_is : (code : Code) (m : CodeState) (number : ℕ) (s : CodeStatement) → number ≡ m.next → slice_get code.statements number ≡ Some s
    → measured_by s.op ≡ measures code m
measured_is code m number s is_next there =
    sym (ap (λ (n : ℕ). measured (slice_get code.statements n)) (sym is_next) ∙ ap measured there)

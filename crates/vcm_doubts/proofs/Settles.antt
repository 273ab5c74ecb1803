-- What becomes of a statement, by whether it is in doubt.
use Rattle.std.proofs.Common.{◌≡◌, ℕ, ◌||◌, not, Bool, true, false, List, [], ◌∷◌, Option, Some, None, refl}
use Rattle.vcm_forms.specs.declared.statement.Coordinates.{Coordinates}
use Rattle.vcm_forms.specs.declared.statement.Form.{Form}
use Rattle.vcm_forms.specs.declared.statement.Form.TheVariants as form
use Rattle.vcm_events.specs.declared.event.Event.TheVariants as events
use Rattle.vcm_events.specs.Events.{lost, gained}
use Rattle.vcm_events.specs.Unknown.{unknown, unknown_rounds}
use Rattle.vcm_doubts.specs.Doubts.{Doubts, is_among, is_in_reach}
use Rattle.vcm_doubts.specs.Settled.{Macros, is_unfollowed, is_doubtful_call, unless, rounds_unless, either, settled_point, settled_form}
use Rattle.vcm_doubts.specs.inner.Instead.{are_names, is_in_doubt, becomes}

-- what holds of both truth values holds of each
both_ways : (P : Bool → Type 0) → P true → P false → (b : Bool) → P b
both_ways P t f true = t
both_ways P t f false = f

-- a point with no direction
without_direction : (names : List (List ℕ)) (p : Coordinates) → settled_point names p ∷ [] ≡ becomes (are_names names) (form.Touch p None)
without_direction [] p = refl
without_direction (name ∷ names) p = refl

-- a statement is put as something else where it is in doubt, and stands elsewhere
pub settles : (d : Doubts) (ms : Macros) (f : Form) → settled_form d ms f ≡ becomes (is_in_doubt d ms f) f
settles d ms (form.Assignment t value) =
    both_ways (λ b. form.Assignment t (unless b value) ∷ [] ≡ becomes b (form.Assignment t value)) refl refl (is_unfollowed d t.name)
settles d ms (form.Query t side l word) =
    both_ways (λ b. either b (form.Query t side l word) (form.Assignment t unknown) ∷ [] ≡ becomes b (form.Query t side l word)) refl refl
    (is_unfollowed d t.name || is_among d.spelled l)
settles d ms (form.Test c) = both_ways (λ b. form.Test (unless b c) ∷ [] ≡ becomes b (form.Test c)) refl refl d.splits
settles d ms (form.Choose c) = both_ways (λ b. form.Choose (unless b c) ∷ [] ≡ becomes b (form.Choose c)) refl refl d.splits
settles d ms (form.Repeat r) =
    both_ways (λ b. form.Repeat (rounds_unless b r) ∷ [] ≡ becomes b (form.Repeat r)) refl refl (d.splits || is_unfollowed d r.variable.name)
settles d ms (form.Restore l) =
    both_ways (λ b. either b (form.Restore l) (lost events.Frame) ∷ [] ≡ becomes b (form.Restore l)) refl refl (is_among d.spelled l)
settles d ms (form.Report side l) =
    both_ways (λ b. either b (form.Report side l) (gained events.Unreported) ∷ [] ≡ becomes b (form.Report side l)) refl refl (is_among d.spelled l)
settles d ms (form.Touch p None) = without_direction d.spelled p
settles d ms (form.Touch p (Some given)) = refl
settles d ms (form.Leap name) =
    both_ways (λ b. either b (form.Leap name) (gained events.Ends) ∷ [] ≡ becomes b (form.Leap name)) refl refl
    (not (is_in_reach d.labels ms.blocks name) || is_among d.spelled name)
settles d ms (form.Call name args) =
    both_ways (λ b. either b (form.Call name args) (lost events.All) ∷ [] ≡ becomes b (form.Call name args)) refl refl (is_doubtful_call d ms.above name args)
settles d ms _ = refl

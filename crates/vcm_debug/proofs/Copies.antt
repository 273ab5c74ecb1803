-- Copies that are kept, and values of variables.
use Rattle.std.proofs.Common.{◌≡◌, Bool, true, false, List, [], ◌∷◌, ◌++◌, length, ℤ, sym, ◌∙◌, ap, subst, if◌then◌else◌}
use Rattle.std.specs.Prelude.{All}
use Rattle.std.proofs.lemmas.List.Elements.{All-push}
use Rattle.vcm_spec.specs.Setup.{Tables}
use Rattle.vcm_spec.specs.Fitting.{kinds}
use Rattle.vcm_items.specs.Slots.{SlotsFit}
use Rattle.vcm_machine.proofs.Evaluating.{slots_long}
use Rattle.std.proofs.lemmas.List.{length-map}

-- one more is kept, or none
pub pushed : {X : Type 0} (P : X → Type 0) (b : Bool) (old new : List X) (x : X) → new ≡ (if b then old ++ x ∷ [] else old) → All P old → P x → All P new
pushed P true old new x e all p = subst (All P) (sym e) (All-push P old x all p)
pushed P false old new x e all p = subst (All P) (sym e) all

-- there are as many values as variables
pub as_many : (t tables : Tables) (zs values : List ℤ) → SlotsFit (kinds t) zs → t ≡ tables → values ≡ zs → length values ≡ length tables.variables
as_many t tables zs values fit e f = ap length f ∙ slots_long (kinds t) zs fit ∙ length-map t.variables (λ v. v.kind) ∙ ap (λ x. length x.variables) e

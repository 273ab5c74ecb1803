-- The fields of a statement: what a function gives for them is what it gives for the statement's places.
use Rattle.std.proofs.Common.{◌≡◌, ℕ, List, [], ◌∷◌, ◌++◌, refl, sym, ap, ◌∙◌}
use Rattle.std.specs.Prelude.{flat_map}
use Rattle.std.proofs.lemmas.List.{append-nil}
use Rattle.std.proofs.lemmas.Grind.{flat_map-append}
use Rattle.vcm_spec.specs.declared.expression.Item.{Item}
use Rattle.vcm_code.specs.declared.branch.Branch.{Branch}
use Rattle.vcm_code.specs.declared.op.Op.{Op as Kept}
use Rattle.vcm_code.specs.Copies.{listed}
use Rattle.vcm_code.proofs.Copies.{same_op}
use Rattle.vcm_fields.specs.declared.field.Field.{Field}
use Rattle.vcm_fields.specs.declared.field.Field.TheVariants as field
use Rattle.vcm_code.specs.Code.{Op}
use Rattle.vcm_code.specs.Shape.{Place, Said, Filled, Parted, parted, places, taken_apart, over_places, over_parted, over_operands}
use Rattle.vcm_fields.specs.Fields.{in_field, PlainField, in_plain, Value, value, alone, AreFields}

-- what a function gives for a value in its place
abbrev of_value : {A : Type 0} → ((p : Place) → Said p → List A) → Value → List A
of_value f (value p x) = f p x

module _ {A E T B : Type 0} (items : E → List Item) (bytes : T → List ℕ) (branches : B → List Branch) (f : (p : Place) → Said p → List A) where
  by_value : (x : Field E T B) → in_field items bytes branches f x ≡ flat_map (of_value f) (in_field items bytes branches alone x)
  by_value field.Nothing = refl
  by_value (field.Variable k n) = sym (append-nil _)
  by_value _ = sym (append-nil _)

  by_values : (xs : List (Field E T B)) → flat_map (in_field items bytes branches f) xs ≡ flat_map (of_value f) (flat_map (in_field items bytes branches alone) xs)
  by_values [] = refl
  by_values (x ∷ xs) =
      ap (λ l. l ++ flat_map (in_field items bytes branches f) xs) (by_value x)
      ∙ ap (λ l. flat_map (of_value f) (in_field items bytes branches alone x) ++ l) (by_values xs)
      ∙ sym (flat_map-append (of_value f) (in_field items bytes branches alone x) (flat_map (in_field items bytes branches alone) xs))

over_values : {A : Type 0} (f : (p : Place) → Said p → List A) (ps : List Place) (x : Filled ps) → flat_map (of_value f) (over_places alone ps x) ≡ over_places f ps x
over_values f [] x = refl
over_values f (p ∷ []) x = append-nil (f p x)
over_values f (p ∷ q ∷ ps) x = ap (λ l. f p x.0 ++ l) (over_values f (q ∷ ps) x.1)

parted_values : {A : Type 0} (f : (p : Place) → Said p → List A) (p : Parted) → flat_map (of_value f) (over_parted alone p) ≡ over_parted f p
parted_values f (parted w x) = over_values f (places w) x

-- the values that the fields of a statement hold are those in its places
pub values_are : (xs : List PlainField) (o : Op) → AreFields xs o → flat_map (in_plain alone) xs ≡ over_operands alone o
values_are xs o h = h (λ e. e) (λ t. t) (λ b. b) ∙ ap (λ (u : Op). over_operands alone u) (same_op o)

-- what a function gives for the fields of a statement is what it gives for its places
pub over_fields_in : {A E T B : Type 0} (items : E → List Item) (bytes : T → List ℕ) (branches : B → List Branch) (f : (p : Place) → Said p → List A) (xs : List (Field E T B)) (o : Kept E T B)
    → AreFields xs o → flat_map (in_field items bytes branches f) xs ≡ over_operands f (listed items bytes branches o)
over_fields_in items bytes branches f xs o h =
    by_values items bytes branches f xs ∙ ap (flat_map (of_value f)) (h items bytes branches) ∙ parted_values f (taken_apart (listed items bytes branches o))

pub over_fields : {A : Type 0} (f : (p : Place) → Said p → List A) (xs : List PlainField) (o : Op) → AreFields xs o → flat_map (in_plain f) xs ≡ over_operands f o
over_fields f xs o h = over_fields_in (λ e. e) (λ t. t) (λ b. b) f xs o h ∙ ap (λ (u : Op). over_operands f u) (same_op o)

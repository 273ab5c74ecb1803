-- The fields of a statement, and the values in its places that they hold.
use Rattle.std.specs.Prelude.{◌≡◌, ℕ, List, [], ◌∷◌, flat_map}
use Rattle.vcm_spec.specs.declared.expression.Item.{Item}
use Rattle.vcm_code.specs.declared.branch.Branch.{Branch}
use Rattle.vcm_code.specs.declared.op.Op.{Op}
use Rattle.vcm_code.specs.Copies.{listed}
use Rattle.vcm_fields.specs.declared.field.Field.{Field}
use Rattle.vcm_fields.specs.declared.field.Field.TheVariants as field
use Rattle.vcm_code.specs.Shape.{Place, Said, over_operands}
use Rattle.vcm_code.specs.Shape as at

-- what a function of a place and its value gives for a field, where these are the items of an expression, the bytes of a text and the branches of a SELECT
abbrev pub in_field : {E T B A : Type 0} → (E → List Item) → (T → List ℕ) → (B → List Branch) → ((p : Place) → Said p → List A) → Field E T B → List A
in_field items bytes branches f field.Nothing = []
in_field items bytes branches f (field.Variable k v) = f (at.variable k) v
in_field items bytes branches f (field.Feature n) = f at.feature n
in_field items bytes branches f (field.Frame n) = f at.frame n
in_field items bytes branches f (field.Pair n) = f at.pair n
in_field items bytes branches f (field.Target to) = f at.target to
in_field items bytes branches f (field.Items k e) = f (at.items k) (items e.now)
in_field items bytes branches f (field.Three k x y z) = f (at.three k) (items x.now, (items y.now, items z.now))
in_field items bytes branches f (field.Assigned v e) = f at.assigned (v, items e.now)
in_field items bytes branches f (field.Toward d) = f at.axis d
in_field items bytes branches f (field.Direction d) = f at.direction d
in_field items bytes branches f (field.Setting which) = f at.setting which
in_field items bytes branches f (field.Source which) = f at.source which
in_field items bytes branches f (field.Turn n) = f at.turn n
in_field items bytes branches f (field.Quarters n) = f at.quarters n
in_field items bytes branches f (field.Part n) = f at.part n
in_field items bytes branches f (field.Text bs) = f at.text (bytes bs.now)
in_field items bytes branches f (field.Branches bs) = f at.branches (branches bs.now)

-- a field whose items, texts and branches are lists
abbrev pub PlainField : Type 0
PlainField = Field (List Item) (List ℕ) (List Branch)

-- what a function of a place and its value gives for one
abbrev pub in_plain : {A : Type 0} → ((p : Place) → Said p → List A) → PlainField → List A
in_plain f x = in_field (λ e. e) (λ t. t) (λ b. b) f x

-- a place and its value
pub data Value : Type 0 where
  value : (p : Place) → Said p → Value

-- this one alone
abbrev pub alone : (p : Place) → Said p → List Value
alone p x = value p x ∷ []

-- fields hold what stands in the places of a statement, in their order
abbrev pub AreFields : {E T B : Type 0} → List (Field E T B) → Op E T B → Type 0
AreFields {E} {T} {B} fs op =
    (items : E → List Item) (bytes : T → List ℕ) (branches : B → List Branch) →
    flat_map (in_field items bytes branches alone) fs ≡ over_operands alone (listed items bytes branches op)

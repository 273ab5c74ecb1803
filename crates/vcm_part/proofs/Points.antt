-- Three items and no others.
use Rattle.std.proofs.Common.{◌≡◌, ◌<◌, ◌≤◌, List, [], ◌∷◌, length, None, refl, arith}
use Rattle.toml.specs.declared.value.Value.{Value}
use Rattle.toml.specs.View.{items_view}
use Rattle.vcm_part.specs.PartFile.{point_of_items}

pub short_items : (vs : List Value) → length vs < 3 → point_of_items (items_view vs) ≡ None
short_items [] h = refl
short_items (a ∷ []) h = refl
short_items (a ∷ b ∷ []) h = refl
short_items (a ∷ b ∷ c ∷ vs) h = absurd (omega arith)

pub long_items : (vs : List Value) → 4 ≤ length vs → point_of_items (items_view vs) ≡ None
long_items [] h = absurd (omega arith)
long_items (a ∷ []) h = absurd (omega arith)
long_items (a ∷ b ∷ []) h = absurd (omega arith)
long_items (a ∷ b ∷ c ∷ []) h = absurd (omega arith)
long_items (a ∷ b ∷ c ∷ d ∷ vs) h = refl

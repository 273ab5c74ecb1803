-- What the code keeps while it takes statements apart.
use Rattle.std.specs.Prelude.{ℕ, suc, List, [], ◌∷◌, if◌then◌else◌}
use Rattle.vcm_sentences.specs.declared.parts.Place.{Place as CodePlace}
use Rattle.vcm_sentences.specs.Parted.{Place, passed, ends_field}

-- the place that the code keeps
abbrev pub place_of : CodePlace → Place
place_of p = record { is_quoted = p.is_quoted; depth = p.depth }

-- how many bytes the first field has, the first of which is at this place
abbrev pub field_len : Place → List ℕ → ℕ
field_len p [] = 0
field_len p (b ∷ bs) = if ends_field p b then 0 else suc (field_len (passed p b) bs)

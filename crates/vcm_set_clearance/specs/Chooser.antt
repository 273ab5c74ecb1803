-- Which variable chooses a probe in a program that a text is put as.
use Rattle.std.specs.Prelude.{ℕ, Bool, ◌&&◌, ◌==◌, List, Option, Some, None}
use Rattle.std.specs.List.{position}
use Rattle.std.specs.Str.{bytes_eq}
use Rattle.vcm_spec.specs.Setup.{Variable}
use Rattle.vcm_turning.specs.Choosing.{chooser}

-- whether a variable has this name and belongs to this expansion
abbrev pub is_named : List ℕ → ℕ → Variable → Bool
is_named name e v = v.expansion == e && bytes_eq v.name name

-- the first place, if there is one, or else the second
abbrev pub either_place : (a b : Option ℕ) → Option ℕ
either_place (Some a) b = Some a
either_place None b = b

-- the place of the variable that chooses: of the text's own of this name, or else of the other one, of an expansion that no text reaches
abbrev pub whole_chooser : (own other : List ℕ) → (expansion : ℕ) → List Variable → Option ℕ
whole_chooser own other e vs = either_place (chooser own vs) (position (is_named other e) vs)

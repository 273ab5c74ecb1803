-- Worked examples: which variable chooses a probe in a program that a text is put as.
use Rattle.std.specs.Prelude.{◌≡◌, refl, ℕ, codes, List, [], ◌∷◌, Some, None}
use Rattle.vcm_num.specs.declared.number.Kind.TheVariants.{Int}
use Rattle.vcm_spec.specs.Setup.{Variable}
use Rattle.vcm_set_clearance.specs.Chooser.{whole_chooser}

-- a whole number with this name, of this expansion
abbrev variable : List ℕ → ℕ → Variable
variable name expansion = record { name = name; kind = Int; expansion = expansion }

-- the expansion of the variable that SNSLCT sets
abbrev beyond : ℕ
beyond = 4294967295

-- the text's own, wherever it stands
pub own : whole_chooser (codes "PROBE") (codes "SENSOR") beyond (variable (codes "SENSOR") beyond ∷ variable (codes "PROBE") 0 ∷ []) ≡ Some 1
own = refl

-- a macro's isn't that, nor is a text's own of the other name
pub other : whole_chooser (codes "PROBE") (codes "SENSOR") beyond
    (variable (codes "SENSOR") 0 ∷ variable (codes "PROBE") 2 ∷ variable (codes "SENSOR") beyond ∷ []) ≡ Some 2
other = refl

pub none : whole_chooser (codes "PROBE") (codes "SENSOR") beyond (variable (codes "SENSOR") 0 ∷ []) ≡ None
none = refl

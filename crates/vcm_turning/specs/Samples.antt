-- Worked examples, computed.
use Rattle.std.specs.Prelude.{◌≡◌, refl, ℕ, pos, negsuc, false, List, [], ◌∷◌, Some, None, codes}
use Rattle.vcm_num.specs.declared.point.Point.{Point}
use Rattle.vcm_num.specs.declared.number.Kind.TheVariants.{Int, Real}
use Rattle.vcm_num.specs.Point.{point}
use Rattle.vcm_spec.specs.Setup.{Variable}
use Rattle.vcm_probe_set.specs.Probes.{Probe}
use Rattle.vcm_turning.specs.Choosing.{chooser, is_held, put_at, turned_point}

-- a probe that hangs down, 150 mm below the turning centre of the head, and one that points to the back
abbrev hanging : ℕ → Point → Probe
hanging number pivot = record { name = codes "T1"; number = number; tip = None; pivot = pivot; pose = None; bodies = [] }

abbrev down : Point
down = point (pos 0) (pos 0) (pos 150000)

abbrev to_back : Point
to_back = point (pos 0) (negsuc 149999) (pos 0)

abbrev probes : List Probe
probes = hanging 1 down ∷ hanging 3 to_back ∷ []

-- the head turns from the first to the second: the tip goes 150 mm back, and up as far
pub turned_back : turned_point (point (pos 50000) (negsuc 4999) (pos 250000)) down to_back ≡ point (pos 50000) (pos 145000) (pos 400000)
turned_back = refl

-- and down again from there
pub turned_down : turned_point (point (pos 50000) (pos 145000) (pos 400000)) to_back down ≡ point (pos 50000) (negsuc 4999) (pos 250000)
turned_down = refl

-- the second is put on by its number, where none or the first is on
pub put_first : put_at probes None (pos 3) ≡ Some 1
put_first = refl

pub put_other : put_at probes (Some 0) (pos 3) ≡ Some 1
put_other = refl

-- not where it is on
pub put_again : put_at probes (Some 1) (pos 3) ≡ None
put_again = refl

-- a number that no probe has puts none on, and none is held by it
pub put_unknown : put_at probes (Some 1) (pos 5) ≡ None
put_unknown = refl

pub held_unknown : is_held probes (Some 1) (pos 5) ≡ false
held_unknown = refl

-- a variable of these
abbrev variable : List ℕ → ℕ → Variable
variable name expansion = record { name = name; kind = Int; expansion = expansion }

-- the variable that chooses belongs to no macro
pub chosen : chooser (codes "PROBE") (variable (codes "PROBE") 2 ∷ variable (codes "K") 0 ∷ variable (codes "PROBE") 0 ∷ []) ≡ Some 2
chosen = refl

-- and is of whole numbers
pub none_chosen : chooser (codes "PROBE") (record { name = codes "PROBE"; kind = Real; expansion = 0 } ∷ []) ≡ None
none_chosen = refl

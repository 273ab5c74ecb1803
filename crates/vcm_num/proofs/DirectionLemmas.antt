-- Coordinates along a direction.
use Rattle.std.proofs.Common.{◌≡◌, ◌≢◌, ℕ, ℤ, pos, ◌+ℤ◌, ◌-ℤ◌, ◌<◌, true, false, arith, get_or, set, length, sym, ◌∙◌, inl, inr}
use Rattle.std.proofs.lemmas.List.{get_or-set_same, get_or-set_other}
use Rattle.std.proofs.lemmas.Int.{ints}
use Rattle.std.proofs.lemmas.Bool.{ne_eqb, cases_eq}
use Rattle.vcm_num.specs.declared.point.Point.{Point}
use Rattle.vcm_num.specs.declared.axis.Axis.{Axis}
use Rattle.vcm_num.specs.declared.axis.Axis.TheVariants.{PlusX, MinusX, PlusY, MinusY, PlusZ, MinusZ}
use Rattle.vcm_num.specs.Point.{coordinate}
use Rattle.vcm_num.specs.Axis.{axis_of, is_forward, unit, along}

pub along_forward : (p : ℕ → ℤ) (d : Axis) (t : ℕ) → is_forward d ≡ true → along p d t (axis_of d) ≡ p (axis_of d) +ℤ pos t
along_forward p PlusX t e = omega (arith, ints)
along_forward p MinusX t e = cc
along_forward p PlusY t e = omega (arith, ints)
along_forward p MinusY t e = cc
along_forward p PlusZ t e = omega (arith, ints)
along_forward p MinusZ t e = cc

pub along_back : (p : ℕ → ℤ) (d : Axis) (t : ℕ) → is_forward d ≡ false → along p d t (axis_of d) ≡ p (axis_of d) -ℤ pos t
along_back p PlusX t e = cc
along_back p MinusX t e = omega (arith, ints)
along_back p PlusY t e = cc
along_back p MinusY t e = omega (arith, ints)
along_back p PlusZ t e = cc
along_back p MinusZ t e = omega (arith, ints)

pub unit_other : (d : Axis) (k : ℕ) → k ≢ axis_of d → unit d k ≡ pos 0
unit_other d k ne = rw (ne_eqb k (axis_of d) ne)

pub along_other : (p : ℕ → ℤ) (d : Axis) (t k : ℕ) → k ≢ axis_of d → along p d t k ≡ p k
along_other p d t k ne = rw (unit_other d k ne) (omega (arith, ints))

-- what is written where a point moves
pub written : (p : Point) (d : Axis) (t i : ℕ) (z : ℤ) → i ≡ axis_of d → i < length p.0 → z ≡ along (coordinate p) d t i →
    (k : ℕ) → get_or (set p.0 i z) k (pos 0) ≡ along (coordinate p) d t k
written p d t i z ei li ez k = elim (cases_eq k i) [
  | inl e ↦ rw (e, get_or-set_same p.0 i z (pos 0) li) ez
  | inr ne ↦ get_or-set_other p.0 i k z (pos 0) ne ∙ sym (along_other (coordinate p) d t k (rw (← ei) ne))
]

pub moved_back : (p : Point) (d : Axis) (t i : ℕ) (z : ℤ) → i ≡ axis_of d → i < length p.0 → is_forward d ≡ false → z ≡ coordinate p i -ℤ pos t →
    (k : ℕ) → get_or (set p.0 i z) k (pos 0) ≡ along (coordinate p) d t k
moved_back p d t i z ei li ef ez = written p d t i z ei li (rw (ez, ei) (sym (along_back (coordinate p) d t ef)))

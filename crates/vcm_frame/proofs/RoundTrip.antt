-- Points that go to machine coordinates and come back, and the other way round.
use Rattle.std.proofs.Common.{◌≡◌, ◌∙◌, ◌<◌, ℕ, ℤ, Bool, true, false, ◌&&◌, sym, ap, arith}
use Rattle.vcm_num.specs.declared.point.Point.{Point}
use Rattle.vcm_num.specs.Number.{fits_i64}
use Rattle.vcm_num.specs.Point.{point, coordinate}
use Rattle.vcm_spec.specs.declared.stop.Stop.TheVariants.{Overflow}
use Rattle.vcm_spec.specs.Frame.{to_machine, to_part}
use Rattle.vcm_spec.specs.Outcome.{Outcome, Gives, ◌>>=◌, demand, fits_place, point_of, point_at}
use Rattle.vcm_spec.proofs.Frames.{there_and_back, back_and_there}
use Rattle.vcm_frame.specs.Laws.{IsPoint, ThereAndBack, BackAndThere}

-- the point at a place of these coordinates, or an overflow
abbrev at_three : ℤ → ℤ → ℤ → Outcome Point
at_three x y z = demand (fits_i64 x && fits_i64 y && fits_i64 z) Overflow >>= (λ _. Gives (point x y z))

at_same : (g h : ℕ → ℤ) → g 0 ≡ h 0 → g 1 ≡ h 1 → g 2 ≡ h 2 → point_at g ≡ point_at h
at_same g h d e f = λ i. at_three (d i) (e i) (f i)

-- a point that is there is at its place
is_at : (x : ℕ → ℤ) (q : Point) → point_at x ≡ Gives q → q ≡ point_of x
is_at x q = by (fits_place x)
  where
    by : (b : Bool) → demand b Overflow >>= (λ _. Gives (point_of x)) ≡ Gives q → q ≡ point_of x
    by true e = cc
    by false e = absurd (cc e)

-- a point of the code is the one at its coordinates
at_own : (p : Point) → IsPoint p → point_at (coordinate p) ≡ Gives p
at_own p h = ap (λ b. demand b Overflow >>= (λ _. Gives (point_of (coordinate p)))) h.fit ∙ ap Gives (sym h.three)

zero_below : 0 < 3
zero_below = omega arith

one_below : 1 < 3
one_below = omega arith

two_below : 2 < 3
two_below = omega arith

pub undone : ThereAndBack
undone f p q turn is e =
    let x : ℕ → ℤ = coordinate p in
    let there : q ≡ point_of (to_machine f x) = is_at (to_machine f x) q e in
    ap (λ r. point_at (to_part f (coordinate r))) there
    ∙ at_same (to_part f (coordinate (point_of (to_machine f x)))) x (there_and_back f x 0 turn zero_below) (there_and_back f x 1 turn one_below) (there_and_back f x 2 turn two_below)
    ∙ at_own p is

pub done_again : BackAndThere
done_again f p q turn is e =
    let x : ℕ → ℤ = coordinate p in
    let there : q ≡ point_of (to_part f x) = is_at (to_part f x) q e in
    ap (λ r. point_at (to_machine f (coordinate r))) there
    ∙ at_same (to_machine f (coordinate (point_of (to_part f x)))) x (back_and_there f x 0 turn zero_below) (back_and_there f x 1 turn one_below) (back_and_there f x 2 turn two_below)
    ∙ at_own p is

-- A turn of the loops that look for a mark.
use Rattle.std.proofs.Common.{◌≡◌, ℕ, ◌<◌, ◌≤◌, true, false, List, [], ◌∷◌, length, drop, refl, arith}
use Rattle.vcm_adapt.specs.Marks.{begins_mark, behind_mark, begins_sign, has_sign}

pub sign_passed : (bs : List ℕ) → 1 ≤ length bs → begins_sign bs ≡ false → has_sign (drop 1 bs) ≡ has_sign bs
unfolding has_sign
sign_passed [] some e = absurd (omega (arith, some))
sign_passed (b ∷ bs) some e = rw e refl

pub sign_here : (bs : List ℕ) → 1 ≤ length bs → begins_sign bs ≡ true → true ≡ has_sign bs
unfolding has_sign
sign_here [] some e = absurd (omega (arith, some))
sign_here (b ∷ bs) some e = rw e refl

pub sign_none : (bs : List ℕ) → length bs < 1 → false ≡ has_sign bs
unfolding has_sign
sign_none [] none = refl
sign_none (b ∷ bs) none = absurd (omega (arith, none))

pub mark_passed : (line bs : List ℕ) → 1 ≤ length bs → begins_mark bs ≡ false → behind_mark line (drop 1 bs) ≡ behind_mark line bs
unfolding behind_mark
mark_passed line [] some e = absurd (omega (arith, some))
mark_passed line (b ∷ bs) some e = rw e refl

pub mark_here : (line bs : List ℕ) → 1 ≤ length bs → begins_mark bs ≡ true → drop 4 bs ≡ behind_mark line bs
unfolding behind_mark
mark_here line [] some e = absurd (omega (arith, some))
mark_here line (b ∷ bs) some e = rw e refl

pub mark_none : (line bs : List ℕ) → length bs < 1 → line ≡ behind_mark line bs
unfolding behind_mark
mark_none line [] none = refl
mark_none line (b ∷ bs) none = absurd (omega (arith, none))

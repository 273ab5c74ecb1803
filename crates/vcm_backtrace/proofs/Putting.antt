-- Values put in the place of as many others.
use Rattle.std.proofs.Common.{◌≡◌, ℕ, zero, suc, ◌+◌, ◌≤◌, ℤ, List, [], ◌∷◌, ◌++◌, length, slice_set, refl, sym, ap, ◌∙◌, arith, append_assoc}
use Rattle.std.proofs.lemmas.List.{length-set, length-append}
use Rattle.vcm_backtrace.specs.Standing.{put_over}

pub put_over_length : (values : List ℤ) (i : ℕ) (others : List ℤ) → length (put_over values i others) ≡ length values
put_over_length values i [] = refl
put_over_length values i (o ∷ os) = put_over_length (slice_set values i o) (i + 1) os ∙ length-set values i o

-- past the end nothing is set
pub set_past : (values : List ℤ) (i : ℕ) (o : ℤ) → length values ≤ i → values ≡ slice_set values i o
set_past [] i o l = refl
set_past (v ∷ vs) zero o l = absurd (omega (arith, l))
set_past (v ∷ vs) (suc i) o l = ap (λ l. v ∷ l) (set_past vs i o (omega (arith, l)))

set_behind : (front : List ℤ) (v o : ℤ) (vs : List ℤ) → slice_set (front ++ v ∷ vs) (length front) o ≡ (front ++ o ∷ []) ++ vs
set_behind [] v o vs = refl
set_behind (f ∷ fs) v o vs = ap (λ l. f ∷ l) (set_behind fs v o vs)

behind : (front values others : List ℤ) → length values ≡ length others → put_over (front ++ values) (length front) others ≡ front ++ others
behind front [] [] e = refl
behind front [] (o ∷ os) e = absurd (omega (arith, e))
behind front (v ∷ vs) [] e = absurd (omega (arith, e))
behind front (v ∷ vs) (o ∷ os) e =
    let more : length front + 1 ≡ length (front ++ o ∷ []) = sym (length-append front (o ∷ [])) in
    ap (λ l. put_over l (length front + 1) os) (set_behind front v o vs)
    ∙ ap (λ i. put_over ((front ++ o ∷ []) ++ vs) i os) more
    ∙ behind (front ++ o ∷ []) vs os (omega (arith, e))
    ∙ append_assoc front (o ∷ []) os

pub put_over_all : (values others : List ℤ) → length values ≡ length others → put_over values 0 others ≡ others
put_over_all values others e = behind [] values others e

-- Watched variables that are passed.
use Rattle.std.proofs.Common.{◌≡◌, ℕ, suc, ◌+◌, ◌<◌, ℤ, Bool, true, false, List, [], ◌∷◌, length, get_or, drop, refl, ap, arith, ◌⊎◌, inl, inr, if◌then◌else◌}
use Rattle.std.specs.Prelude.{Some, None}
use Rattle.std.specs.Ordering.{int_eq}
use Rattle.std.proofs.Math.Seq.{drop-cons}
use Rattle.vcm_debug.specs.Halting.{changed_from, some_watched}

-- one that has no watch, or whose value is the same
passes_one : (k : ℕ) (w : Bool) (ws : List Bool) (b : ℤ) (bs : List ℤ) (n : ℤ) (ns : List ℤ) → (w ≡ false) ⊎ (int_eq b n ≡ true)
    → changed_from k (w ∷ ws) (b ∷ bs) (n ∷ ns) ≡ changed_from (k + 1) ws bs ns
passes_one k true ws b bs n ns (inl e) = absurd cc
passes_one k true ws b bs n ns (inr e) = ap (λ t. if t then changed_from (k + 1) ws bs ns else Some k) e
passes_one k false ws b bs n ns e = refl

pub passes : (i k : ℕ) (ws : List Bool) (bs ns : List ℤ) (d : Bool) (x y : ℤ) → i < length ws → length ws ≡ length bs → length ws ≡ length ns
    → (get_or ws i d ≡ false) ⊎ (int_eq (get_or bs i x) (get_or ns i y) ≡ true)
    → changed_from k (drop i ws) (drop i bs) (drop i ns) ≡ changed_from (k + 1) (drop (i + 1) ws) (drop (i + 1) bs) (drop (i + 1) ns)
passes i k ws bs ns d x y l e f h =
    let s : i + 1 ≡ suc i = omega arith in
    let lb : i < length bs = omega arith in
    let ln : i < length ns = omega arith in
    rw (s, drop-cons ws i d l, drop-cons bs i x lb, drop-cons ns i y ln) (passes_one k (get_or ws i d) (drop (suc i) ws) (get_or bs i x) (drop (suc i) bs) (get_or ns i y) (drop (suc i) ns) h)

-- where no variable is watched none is found
pub quiet : (k : ℕ) (ws : List Bool) (bs ns : List ℤ) → some_watched ws ≡ false → changed_from k ws bs ns ≡ None
quiet k [] bs ns e = refl
quiet k (w ∷ ws) [] ns e = refl
quiet k (w ∷ ws) (b ∷ bs) [] e = refl
quiet k (true ∷ ws) (b ∷ bs) (n ∷ ns) e = absurd cc
quiet k (false ∷ ws) (b ∷ bs) (n ∷ ns) e = quiet (k + 1) ws bs ns e

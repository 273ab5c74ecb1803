-- Known bytes of a writer, step by step.
use Rattle.std.proofs.Common.{◌≡◌, ℕ, ◌+◌, ◌-◌, ◌≤◌, ◌<◌, List, [], ◌∷◌, ◌++◌, length, take, drop, Option, Some, None, refl, sym, ap, ◌∙◌, append_assoc, zero}
use Rattle.std.proofs.Common.{suc, arith, length-append, length-drop, take-add, subst, get_or, Bor}
use Rattle.std.proofs.lemmas.List.{append-nil, take_all}
use Rattle.std.specs.Prelude.{flat_map, Result, Ok, Err}
use Rattle.std.specs.Io.KnownBytes.{Appends}
use Rattle.vcm_num.specs.Written.{AppendsFront, Wrote}

pub appends_nothing : (o : Option (List ℕ)) → Appends o o []
appends_nothing None = tt
appends_nothing (Some xs) = sym (append-nil xs)

pub appends_more : (a b c : Option (List ℕ)) (xs ys zs : List ℕ) → xs ++ ys ≡ zs → Appends a b xs → Appends b c ys → Appends a c zs
appends_more None b c xs ys zs e h k = tt
appends_more (Some p) None c xs ys zs e h k = absurd h
appends_more (Some p) (Some q) None xs ys zs e h k = absurd k
appends_more (Some p) (Some q) (Some r) xs ys zs e h k = rw (k, h, ← e) (append_assoc p xs ys)

-- what stands before at, and the next n
pub front_more : (bs : List ℕ) (at n : ℕ) → take at bs ++ take n (take (length bs - at) (drop at bs)) ≡ take (at + n) bs
front_more bs at n =
    let short : length (drop at bs) ≤ length bs - at = omega (arith, length-drop at bs) in
    rw (take_all (length bs - at) (drop at bs) short) (sym (take-add at n bs))

-- a front of what comes first is a front of all
front_append : (k : ℕ) (xs ys : List ℕ) → k < length xs → take k (xs ++ ys) ≡ take k xs
front_append k [] ys l = absurd (omega arith)
front_append zero (x ∷ xs) ys l = refl
front_append (suc k) (x ∷ xs) ys l = ap (λ l. x ∷ l) (front_append k xs ys (omega arith))

pub front_first : (a b : Option (List ℕ)) (xs ys zs : List ℕ) → xs ++ ys ≡ zs → AppendsFront a b xs → AppendsFront a b zs
front_first a b xs ys zs e h =
    let below : h.0 < length zs = rw (← e) (omega (arith, length-append xs ys, h.1)) in
    (h.0, below, subst (λ l. Appends a b l) (sym (front_append h.0 xs ys h.1) ∙ ap (take h.0) e) h.2)

-- all of what comes first, and a front of what comes then
take_after : (xs ys : List ℕ) (k : ℕ) → take (length xs + k) (xs ++ ys) ≡ xs ++ take k ys
take_after [] ys k = ap (λ n. take n ys) (let e : 0 + k ≡ k = omega arith in e)
take_after (x ∷ xs) ys k = ap (λ n. take n (x ∷ xs ++ ys)) (let e : suc (length xs) + k ≡ suc (length xs + k) = omega arith in e) ∙ ap (λ l. x ∷ l) (take_after xs ys k)

pub front_then : (a b c : Option (List ℕ)) (xs ys zs : List ℕ) → xs ++ ys ≡ zs → Appends a b xs → AppendsFront b c ys → AppendsFront a c zs
front_then a b c xs ys zs e h k =
    let below : length xs + k.0 < length zs = rw (← e) (omega (arith, length-append xs ys, k.1)) in
    (length xs + k.0, below, appends_more a b c xs (take k.0 ys) _ (sym (take_after xs ys k.0) ∙ ap (take (length xs + k.0)) e) h k.2)

-- the pieces before the i-th, that one, and those after it
pub pieces_cut : (ps : List (Bor (List ℕ))) (i : ℕ) (d : Bor (List ℕ)) → i < length ps
    → flat_map (λ p. p.now) (take i ps) ++ ((get_or ps i d).now ++ flat_map (λ p. p.now) (drop (i + 1) ps)) ≡ flat_map (λ p. p.now) ps
pieces_cut [] i d l = absurd (omega arith)
pieces_cut (p ∷ ps) zero d l = refl
pieces_cut (p ∷ ps) (suc i) d l =
    append_assoc p.now (flat_map (λ p. p.now) (take i ps)) _
    ∙ ap (λ n. p.now ++ (flat_map (λ p. p.now) (take i ps) ++ ((get_or ps i d).now ++ flat_map (λ p. p.now) (drop n (p ∷ ps))))) (let e : suc i + 1 ≡ suc (i + 1) = omega arith in e)
    ∙ ap (λ l. p.now ++ l) (pieces_cut ps i d (omega arith))

-- what was written before, and then this call's bytes
pub wrote_then : {A E : Type 0} (a b c : Option (List ℕ)) (xs ys zs : List ℕ) (r : Result A E) → xs ++ ys ≡ zs → Appends a b xs → Wrote b c ys r → Wrote a c zs r
wrote_then a b c xs ys zs (Ok x) e h k = appends_more a b c xs ys zs e h k
wrote_then a b c xs ys zs (Err f) e h k = front_then a b c xs ys zs e h k

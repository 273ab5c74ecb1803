-- The first line of a text.
use Rattle.std.proofs.Common.{◌≡◌, ℕ, zero, suc, ◌+◌, ◌<◌, ◌≤◌, Bool, true, false, cond, eqb, List, [], ◌∷◌, length, take, drop, Some, None, refl, ap, ◌∙◌, arith}
use Rattle.std.specs.Prelude.{not}
use Rattle.std.specs.List.{onto_first, position, position_or_len}
use Rattle.std.proofs.lemmas.Bool.{ltb-false}
use Rattle.std.proofs.lemmas.List.Quantifiers.{position-Some}
use Rattle.std.proofs.lemmas.List.Sums.{position_or_len_is}
use Rattle.vcm_num.proofs.LineFeeds.{ends_line}
use Rattle.vcm_num.specs.Lines.{whole_lines}

pub whole_feed : (b : ℕ) (bs : List ℕ) → eqb b 10 ≡ true → whole_lines (b ∷ bs) ≡ (b ∷ []) ∷ whole_lines bs
unfolding whole_lines
whole_feed b bs e = rw e refl

pub whole_other : (b : ℕ) (bs : List ℕ) → eqb b 10 ≡ false → whole_lines (b ∷ bs) ≡ onto_first b (whole_lines bs)
unfolding whole_lines
whole_other b bs e = rw e refl

pub whole_nil : whole_lines [] ≡ []
unfolding whole_lines
whole_nil = refl

both_ways : (P : Type 0) (b : Bool) → (b ≡ true → P) → (b ≡ false → P) → P
both_ways P true p q = p refl
both_ways P false p q = q refl

-- where the first n bytes are no line feeds and the one behind them is one
abbrev pub IsCutAt : ℕ → List ℕ → Type 0
IsCutAt n [] = ⊥
IsCutAt zero (b ∷ bs) = eqb b 10 ≡ true
IsCutAt (suc n) (b ∷ bs) = (eqb b 10 ≡ false) × IsCutAt n bs

pub cut_first : (n : ℕ) (bs : List ℕ) → IsCutAt n bs → whole_lines bs ≡ take (suc n) bs ∷ whole_lines (drop (suc n) bs)
cut_first n [] h = absurd h
cut_first zero (b ∷ bs) h = whole_feed b bs h
cut_first (suc n) (b ∷ bs) h = whole_other b bs h.0 ∙ ap (onto_first b) (cut_first n bs h.1)

-- bytes of which none is a line feed
abbrev pub AreFeedless : List ℕ → Type 0
AreFeedless [] = Unit {0}
AreFeedless (b ∷ bs) = (eqb b 10 ≡ false) × AreFeedless bs

pub cut_none : (b : ℕ) (bs : List ℕ) → AreFeedless (b ∷ bs) → whole_lines (b ∷ bs) ≡ (b ∷ bs) ∷ []
cut_none b [] h = whole_other b [] h.0 ∙ ap (onto_first b) whole_nil
cut_none b (c ∷ bs) h = whole_other b (c ∷ bs) h.0 ∙ ap (onto_first b) (cut_none c bs h.1)

passes_not : (b : Bool) (k n : ℕ) → cond (not b) (1 + k) 0 ≡ suc n → (b ≡ false) × (k ≡ n)
passes_not true k n e = absurd (omega (arith, e))
passes_not false k n e = (refl, omega (arith, e))

passes : (b : Bool) (k : ℕ) → cond (not b) (1 + k) 0 ≡ 0 → b ≡ true
passes true k e = refl
passes false k e = absurd (omega (arith, e))

pub cut_at : (n : ℕ) (bs : List ℕ) → position_or_len ends_line bs ≡ n → n < length bs → IsCutAt n bs
cut_at n [] e lt = absurd (omega (arith, lt))
cut_at zero (b ∷ bs) e lt = passes (eqb b 10) (position_or_len ends_line bs) e
cut_at (suc n) (b ∷ bs) e lt = let p = passes_not (eqb b 10) (position_or_len ends_line bs) n e in (p.0, cut_at n bs p.1 (omega (arith, lt)))

feedless_at : (b : Bool) (k m : ℕ) → suc m ≤ cond (not b) (1 + k) 0 → (b ≡ false) × (m ≤ k)
feedless_at true k m h = absurd (omega (arith, h))
feedless_at false k m h = (refl, omega (arith, h))

pub feedless : (bs : List ℕ) → length bs ≤ position_or_len ends_line bs → AreFeedless bs
feedless [] h = tt
feedless (b ∷ bs) h = let p = feedless_at (eqb b 10) (position_or_len ends_line bs) (length bs) h in (p.0, feedless bs p.1)

some_cut : (t : Bool) (m n : ℕ) → cond t (Some m) None ≡ Some n → (t ≡ true) × (m ≡ n)
some_cut true m n e = grind arith
some_cut false m n e = grind arith

none_cut : (t : Bool) (m : ℕ) → cond t (Some m) None ≡ None → t ≡ false
none_cut true m e = grind arith
none_cut false m e = refl

some_bytes : (bs : List ℕ) → 0 < length bs → AreFeedless bs → whole_lines bs ≡ bs ∷ []
some_bytes [] lt h = absurd (omega (arith, lt))
some_bytes (b ∷ bs) lt h = cut_none b bs h

pub lines_last : (bs : List ℕ) → 0 < length bs → position ends_line bs ≡ None → whole_lines bs ≡ bs ∷ whole_lines []
lines_last bs lt e = rw whole_nil (some_bytes bs lt (feedless bs (ltb-false _ _ (none_cut _ _ e))))

pub lines_first : (bs : List ℕ) (n : ℕ) → position ends_line bs ≡ Some n → whole_lines bs ≡ take (n + 1) bs ∷ whole_lines (drop (n + 1) bs)
lines_first bs n e =
    let p = position-Some ends_line bs n 0 e in
    let is : position_or_len ends_line bs ≡ n = position_or_len_is ends_line bs n 0 (omega arith) p.2 (λ lt. p.1) in
    let k : n + 1 ≡ suc n = omega arith in
    rw k (cut_first n bs (cut_at n bs is (omega (arith, p.0))))

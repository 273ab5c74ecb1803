-- The first comma of a word.
use Rattle.std.proofs.Common.{◌≡◌, ℕ, ◌+◌, ◌<◌, ◌≤◌, Bool, true, false, cond, eqb, List, [], ◌∷◌, length, take, drop, length-drop, Some, None, refl, arith}
use Rattle.std.specs.List.{slice_split, position, position_or_len}
use Rattle.std.proofs.lemmas.Bool.{ltb-false}
use Rattle.std.proofs.lemmas.List.Quantifiers.{position-Some}
use Rattle.std.proofs.lemmas.List.Splits.{slice_split_none, slice_split_first}
use Rattle.std.proofs.lemmas.List.Sums.{fails_before_first, position_or_len_is}

abbrev pub is_comma : ℕ → Bool
is_comma b = eqb b 44

some_or_none : (b : Bool) (n : ℕ) → cond b (Some n) None ≡ None → b ≡ false
some_or_none true n e = absurd (cc)
some_or_none false n e = refl

pub uncut : (bs : List ℕ) → position is_comma bs ≡ None → slice_split is_comma bs ≡ bs ∷ []
uncut bs e =
    let all : length bs ≤ position_or_len is_comma bs = ltb-false _ _ (some_or_none _ _ e) in
    slice_split_none is_comma bs (λ k d h. fails_before_first is_comma bs k d (omega arith))

pub cut_first : (bs : List ℕ) (n : ℕ) → position is_comma bs ≡ Some n → slice_split is_comma bs ≡ take n bs ∷ slice_split is_comma (drop (n + 1) bs)
cut_first bs n e =
    let p = position-Some is_comma bs n 0 e in
    let is : position_or_len is_comma bs ≡ n = position_or_len_is is_comma bs n 0 (omega arith) p.2 (λ lt. p.1) in
    rw is at (slice_split_first is_comma bs 0 (omega (arith, is, p.0)))

pub comma_within : (bs : List ℕ) (n : ℕ) → position is_comma bs ≡ Some n → n < length bs
comma_within bs n e = (position-Some is_comma bs n 0 e).0

pub comma_shorter : (bs : List ℕ) (n : ℕ) → position is_comma bs ≡ Some n → length (drop (n + 1) bs) < length bs
comma_shorter bs n e = let lt = comma_within bs n e in rw length-drop (omega (arith, lt))

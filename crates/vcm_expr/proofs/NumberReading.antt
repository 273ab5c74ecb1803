-- The reading of a number, as a relation and as a function.
use Rattle.std.proofs.Common.{◌≡◌, ℕ, ◌+◌, ◌^◌, ◌==◌, nat_lt, Bool, true, false, cond, List, [], ◌∷◌, ◌++◌, length, drop, Option, Some, None, Result, Ok, Err, refl, sym, ap, ◌∙◌, arith}
use Rattle.std.specs.List.{list_all}
use Rattle.std.specs.Char.{is_ascii_digit}
use Rattle.std.proofs.lemmas.Bool.{eqb-true, eqb-false, ltb-true, ltb-false}
use Rattle.vcm_num.specs.declared.number.Literal.{Literal}
use Rattle.vcm_num.specs.declared.read.NumFault.{NumFault}
use Rattle.vcm_num.specs.declared.read.NumFault.TheVariants.{BadNumber, TooFine, TooLarge}
use Rattle.vcm_num.specs.Literals.{AllDigits, Parts, point_part, digits_after, SpellsNumber, Reads, is_fine, magnitude_of, literal_of, has_minus, after_sign}
use Rattle.vcm_num.specs.inner.Digits.{NoDigitFirst}
use Rattle.vcm_num.proofs.Reading.{cut_once, spells_whole, spells_decimals, no_digits, no_point, bare_point, bad_decimals}
use Rattle.vcm_expr.specs.Digits.{front_digits, past_digits, sized, read_after, read_of}

-- ---- the reading is unique

no_digit : (o : Option (List ℕ)) → NoDigitFirst (point_part o)
no_digit None = tt
no_digit (Some ds) = refl

decimals_once : (o r : Option (List ℕ)) → point_part o ≡ point_part r → o ≡ r
decimals_once None None e = refl
decimals_once None (Some ds) e = absurd cc
decimals_once (Some ds) None e = absurd cc
decimals_once (Some ds) (Some es) e = let same : ds ≡ es = cc in ap Some same

-- bytes spell a number in one way
parts_once : (bytes : List ℕ) (p q : Parts) → SpellsNumber bytes p → SpellsNumber bytes q → (p.whole ≡ q.whole) × (p.decimals ≡ q.decimals)
parts_once bytes p q s t =
    let c = cut_once p.whole q.whole (point_part p.decimals) (point_part q.decimals) s.whole_digits t.whole_digits (no_digit p.decimals) (no_digit q.decimals) (sym s.cut ∙ t.cut) in
    (c.0, decimals_once p.decimals q.decimals c.1)

same_fine : (bytes : List ℕ) (p q : Parts) → SpellsNumber bytes p → SpellsNumber bytes q → is_fine p ≡ is_fine q
same_fine bytes p q s t = let e = parts_once bytes p q s t in ap (λ o. list_all (λ d. d == 48) (drop 3 (digits_after o))) e.1

same_magnitude : (bytes : List ℕ) (p q : Parts) → SpellsNumber bytes p → SpellsNumber bytes q → magnitude_of p.whole p.decimals ≡ magnitude_of q.whole q.decimals
same_magnitude bytes p q s t = let e = parts_once bytes p q s t in rw (e.0, e.1) refl

-- two readings of the same bytes are equal
pub reads_same : (bytes : List ℕ) (r s : Result Literal NumFault) → Reads bytes r → Reads bytes s → r ≡ s
reads_same bytes (Ok x) (Ok y) h g =
    let e = parts_once bytes h.0 g.0 h.1 g.1 in
    let same : literal_of (has_minus bytes) (magnitude_of h.0.whole h.0.decimals) h.0.decimals ≡ literal_of (has_minus bytes) (magnitude_of g.0.whole g.0.decimals) g.0.decimals = rw (e.0, e.1) refl in
    ap Ok (h.4 ∙ same ∙ sym g.4)
reads_same bytes (Ok x) (Err BadNumber) h g = absurd (g h.0 h.1)
reads_same bytes (Ok x) (Err TooFine) h g = let e = same_fine bytes h.0 g.0 h.1 g.1 in let p = h.2 in let q = g.2 in absurd cc
reads_same bytes (Ok x) (Err TooLarge) h g = let e = same_magnitude bytes h.0 g.0 h.1 g.1 in let p = h.3 in let q = g.3 in absurd (omega arith)
reads_same bytes (Err BadNumber) (Ok x) h g = absurd (h g.0 g.1)
reads_same bytes (Err BadNumber) (Err BadNumber) h g = refl
reads_same bytes (Err BadNumber) (Err TooFine) h g = absurd (h g.0 g.1)
reads_same bytes (Err BadNumber) (Err TooLarge) h g = absurd (h g.0 g.1)
reads_same bytes (Err TooFine) (Ok x) h g = let e = same_fine bytes h.0 g.0 h.1 g.1 in let p = h.2 in let q = g.2 in absurd cc
reads_same bytes (Err TooFine) (Err BadNumber) h g = absurd (g h.0 h.1)
reads_same bytes (Err TooFine) (Err TooFine) h g = refl
reads_same bytes (Err TooFine) (Err TooLarge) h g = let e = same_fine bytes h.0 g.0 h.1 g.1 in let p = h.2 in let q = g.2 in absurd cc
reads_same bytes (Err TooLarge) (Ok x) h g = let e = same_magnitude bytes h.0 g.0 h.1 g.1 in let p = h.3 in let q = g.3 in absurd (omega arith)
reads_same bytes (Err TooLarge) (Err BadNumber) h g = absurd (g h.0 h.1)
reads_same bytes (Err TooLarge) (Err TooFine) h g = let e = same_fine bytes h.0 g.0 h.1 g.1 in let p = h.2 in let q = g.2 in absurd cc
reads_same bytes (Err TooLarge) (Err TooLarge) h g = refl

-- ---- the function is the reading

choose : {A : Type 0} (P : A → Type 0) (b : Bool) (x y : A) → (b ≡ true → P x) → (b ≡ false → P y) → P (cond b x y)
choose P true x y p q = p refl
choose P false x y p q = q refl

digits_cut : (bs : List ℕ) → bs ≡ front_digits bs ++ past_digits bs
digits_cut [] = refl
digits_cut (b ∷ bs) = step (is_ascii_digit b) b bs (front_digits bs) (past_digits bs) (digits_cut bs)
  where
    step : (t : Bool) (b : ℕ) (bs w r : List ℕ) → bs ≡ w ++ r → b ∷ bs ≡ cond t (b ∷ w) [] ++ cond t r (b ∷ bs)
    step true b bs w r e = ap (λ (l : List ℕ). b ∷ l) e
    step false b bs w r e = refl

front_all : (bs : List ℕ) → AllDigits (front_digits bs)
front_all [] = tt
front_all (b ∷ bs) = choose AllDigits (is_ascii_digit b) _ _ (λ e. (e, front_all bs)) (λ e. tt)

past_none : (bs : List ℕ) → NoDigitFirst (past_digits bs)
past_none [] = tt
past_none (b ∷ bs) = choose NoDigitFirst (is_ascii_digit b) _ _ (λ e. past_none bs) (λ e. e)

-- symbols that are spelled, and fine, are read by their size
sized_reads : (bytes w : List ℕ) (o : Option (List ℕ)) → SpellsNumber bytes (record { whole = w; decimals = o })
    → is_fine (record { whole = w; decimals = o }) ≡ true → Reads bytes (sized (has_minus bytes) w o)
sized_reads bytes w o s f =
    choose (Reads bytes) (nat_lt (magnitude_of w o) (2 ^ 63)) _ _
    (λ e. (record { whole = w; decimals = o }, s, f, ltb-true _ _ e, refl))
    (λ e. (record { whole = w; decimals = o }, s, f, ltb-false _ _ e))

after_reads : (bytes w r : List ℕ) → after_sign bytes ≡ w ++ r → AllDigits w → NoDigitFirst r → Reads bytes (read_after (has_minus bytes) w r)
after_reads bytes w [] cut digits ends =
    choose (Reads bytes) (length w == 0) _ _
    (λ e. no_digits bytes w [] cut digits ends refl (eqb-true _ _ e))
    (λ e. let some = eqb-false _ _ e in sized_reads bytes w None (spells_whole bytes w [] cut digits ends refl (omega arith)) refl)
after_reads bytes w (b ∷ ds) cut digits ends =
    choose (Reads bytes) (b == 46) _ _
    (λ p. let point : b ∷ ds ≡ 46 ∷ ds = ap (λ (c : ℕ). c ∷ ds) (eqb-true b 46 p) in
    choose (Reads bytes) (list_all is_ascii_digit ds) _ _
    (λ all.
    choose (Reads bytes) (length w + length ds == 0) _ _
    (λ e. let none = eqb-true _ _ e in bare_point bytes w (b ∷ ds) cut digits ends ds point (omega arith) (omega arith))
    (λ e. let some = eqb-false _ _ e in
    let s = spells_decimals bytes w (b ∷ ds) cut digits ends ds point all (omega arith) in
    choose (Reads bytes) (list_all (λ d. d == 48) (drop 3 ds)) _ _
    (λ f. sized_reads bytes w (Some ds) s f)
    (λ f. (record { whole = w; decimals = Some ds }, s, f))))
    (λ bad. bad_decimals bytes w (b ∷ ds) cut digits ends ds point bad))
    (λ n. no_point bytes w (b ∷ ds) cut digits ends b ds refl (eqb-false b 46 n))

pub reads_of : (bytes : List ℕ) → Reads bytes (read_of bytes)
unfolding read_of
reads_of bytes = after_reads bytes (front_digits (after_sign bytes)) (past_digits (after_sign bytes)) (digits_cut (after_sign bytes)) (front_all (after_sign bytes)) (past_none (after_sign bytes))

-- so a reading is what the function gives
pub read_is : (bytes : List ℕ) (r : Result Literal NumFault) → Reads bytes r → r ≡ read_of bytes
read_is bytes r h = reads_same bytes r (read_of bytes) h (reads_of bytes)

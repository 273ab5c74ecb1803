-- Lemmas on the texts of numbers.
use Rattle.std.proofs.Common.{◌≡◌, ◌≢◌, ℕ, suc, ◌+◌, ◌-◌, ◌*◌, ◌^◌, ◌<◌, ◌≤◌, Bool, true, false, ◌&&◌, ◌==◌, List, [], ◌∷◌, ◌++◌, length, drop, get_or, Option}
use Rattle.std.proofs.Common.{Some, None, Ok, Err, refl, sym, ap, ◌∙◌, subst, arith}
use Rattle.std.specs.List.{list_all}
use Rattle.std.specs.Char.{is_ascii_digit}
use Rattle.std.proofs.Math.Nat.{pow-suc}
use Rattle.vcm_num.specs.Literals.{digits_value, AllDigits, has_minus, after_sign, Parts, point_part, digits_after, SpellsNumber, three_decimals, number_after, signed, Reads}
use Rattle.vcm_num.specs.inner.Digits.{NoDigitFirst}
use Rattle.vcm_num.specs.declared.number.Literal.TheVariants.{Int, Thousandths}
use Rattle.vcm_num.specs.declared.read.NumFault.TheVariants.{TooFine, TooLarge}
use Rattle.std.proofs.lemmas.List.{at_drop_more}

pub number_after-value : (n : ℕ) (ds : List ℕ) → number_after n ds ≡ n * 10 ^ length ds + digits_value ds
number_after-value n [] = omega arith
number_after-value n (d ∷ ds) =
    let rest = number_after-value (n * 10 + (d - 48)) ds in
    let power : 10 ^ suc (length ds) ≡ 10 ^ length ds * 10 = pow-suc 10 (length ds) in
    rest ∙ step n (d - 48) (10 ^ length ds) (10 ^ suc (length ds)) (digits_value ds) power
  where
    step : (n e p q v : ℕ) → q ≡ p * 10 → (n * 10 + e) * p + v ≡ n * q + (e * p + v)
    step n e p q v h = rw h (omega arith)

pub number_after-append : (n : ℕ) (xs ys : List ℕ) → number_after n (xs ++ ys) ≡ number_after (number_after n xs) ys
number_after-append n [] ys = refl
number_after-append n (d ∷ xs) ys = number_after-append (n * 10 + (d - 48)) xs ys

pub number_after-le : (n : ℕ) (ds : List ℕ) → n ≤ number_after n ds
number_after-le n [] = omega arith
number_after-le n (d ∷ ds) = omega (arith, number_after-le (n * 10 + (d - 48)) ds)

-- so a number after none is the value of its digits
pub number_after-zero : (ds : List ℕ) → number_after 0 ds ≡ digits_value ds
number_after-zero ds = omega (arith, number_after-value 0 ds)

pub AllDigits-from_test : (ds : List ℕ) → list_all is_ascii_digit ds ≡ true → AllDigits ds
AllDigits-from_test [] e = tt
AllDigits-from_test (d ∷ ds) e = let t = first (is_ascii_digit d) (list_all is_ascii_digit ds) e in (t.0, AllDigits-from_test ds t.1)
  where
    first : (a b : Bool) → (a && b) ≡ true → (a ≡ true) × (b ≡ true)
    first true b e = (refl, e)
    first false b e = cc

pub AllDigits-test : (ds : List ℕ) → AllDigits ds → list_all is_ascii_digit ds ≡ true
AllDigits-test [] h = refl
AllDigits-test (d ∷ ds) h = ap (λ b. b && list_all is_ascii_digit ds) h.0 ∙ AllDigits-test ds h.1

pub AllDigits-push : (xs : List ℕ) (b : ℕ) → AllDigits xs → is_ascii_digit b ≡ true → AllDigits (xs ++ b ∷ [])
AllDigits-push [] b h e = (e, tt)
AllDigits-push (x ∷ xs) b h e = (h.0, AllDigits-push xs b h.1 e)

-- digits and what is no digit are cut in one way
pub cut_once : (w v r s : List ℕ) → AllDigits w → AllDigits v → NoDigitFirst r → NoDigitFirst s → w ++ r ≡ v ++ s → (w ≡ v) × (r ≡ s)
cut_once [] [] r s dw dv nr ns e = (refl, e)
cut_once [] (b ∷ v) r s dw dv nr ns e =
    let no_digit : is_ascii_digit b ≡ false = subst NoDigitFirst e nr in
    let digit = dv.0 in
    absurd (cc (no_digit, digit))
cut_once (b ∷ w) [] r s dw dv nr ns e =
    let no_digit : is_ascii_digit b ≡ false = subst NoDigitFirst (sym e) ns in
    let digit = dw.0 in
    absurd (cc (no_digit, digit))
cut_once (a ∷ w) (b ∷ v) r s dw dv nr ns e =
    let tails : w ++ r ≡ v ++ s = cc in
    let heads : a ≡ b = cc in
    let i = cut_once w v r s dw.1 dv.1 nr ns tails in
    (cc (heads, i.0), i.1)

point_part-no_digit : (o : Option (List ℕ)) → NoDigitFirst (point_part o)
point_part-no_digit None = tt
point_part-no_digit (Some ds) = refl

module _ (bytes w r : List ℕ) (cut : after_sign bytes ≡ w ++ r) (digits : AllDigits w) (ends : NoDigitFirst r) where
  -- any parts that the bytes spell are these
  parts_are : (p : Parts) → SpellsNumber bytes p → (p.whole ≡ w) × (point_part p.decimals ≡ r)
  parts_are p h = cut_once p.whole w (point_part p.decimals) r h.whole_digits digits (point_part-no_digit p.decimals) ends (sym h.cut ∙ cut)

  pub spells_whole : r ≡ [] → 0 < length w → SpellsNumber bytes (record { whole = w; decimals = None })
  spells_whole e h = record { cut = cut ∙ ap (λ l. w ++ l) e; whole_digits = digits; decimal_digits = tt; has_digit = omega arith }

  pub spells_decimals : (ds : List ℕ) → r ≡ 46 ∷ ds → list_all is_ascii_digit ds ≡ true → 0 < length w + length ds → SpellsNumber bytes (record { whole = w; decimals = Some ds })
  spells_decimals ds e t h = record { cut = cut ∙ ap (λ l. w ++ l) e; whole_digits = digits; decimal_digits = AllDigits-from_test ds t; has_digit = h }

  pub no_digits : r ≡ [] → length w ≡ 0 → (p : Parts) → ¬ SpellsNumber bytes p
  no_digits e h p s = let a = parts_are p s in none p.decimals (a.1 ∙ e) s.has_digit
    where
      none : (o : Option (List ℕ)) → point_part o ≡ [] → 0 < length p.whole + length (digits_after o) → ⊥
      none None f k = let same = ap length (parts_are p s).0 in omega arith
      none (Some ds) f k = cc

  pub no_point : (b : ℕ) (ds : List ℕ) → r ≡ b ∷ ds → b ≢ 46 → (p : Parts) → ¬ SpellsNumber bytes p
  no_point b ds e h p s = none p.decimals ((parts_are p s).1 ∙ e)
    where
      none : (o : Option (List ℕ)) → point_part o ≡ b ∷ ds → ⊥
      none None f = cc
      none (Some es) f = let same : 46 ≡ b = cc in h (sym same)

  decimals_are : (ds : List ℕ) → r ≡ 46 ∷ ds → (p : Parts) → SpellsNumber bytes p → digits_after p.decimals ≡ ds
  decimals_are ds e p s = which p.decimals ((parts_are p s).1 ∙ e)
    where
      which : (o : Option (List ℕ)) → point_part o ≡ 46 ∷ ds → digits_after o ≡ ds
      which None f = cc
      which (Some es) f = cc

  pub bare_point : (ds : List ℕ) → r ≡ 46 ∷ ds → length w ≡ 0 → length ds ≡ 0 → (p : Parts) → ¬ SpellsNumber bytes p
  bare_point ds e hw hd p s =
      let one = ap length (parts_are p s).0 in
      let two = ap length (decimals_are ds e p s) in
      let some = s.has_digit in
      omega arith

  pub bad_decimals : (ds : List ℕ) → r ≡ 46 ∷ ds → list_all is_ascii_digit ds ≡ false → (p : Parts) → ¬ SpellsNumber bytes p
  bad_decimals ds e h p s =
      let all = AllDigits-test ds (subst AllDigits (decimals_are ds e p s) s.decimal_digits) in
      cc

  pub reads_whole : r ≡ [] → 0 < length w → (n : ℕ) → number_after 0 w < 2 ^ 63 → n ≡ number_after 0 w → Reads bytes (Ok (Int (signed (has_minus bytes) n)))
  reads_whole e h n small same =
      let value = number_after-zero w in
      (record { whole = w; decimals = None }, spells_whole e h, refl, omega arith, ap (λ m. Int (signed (has_minus bytes) m)) (same ∙ value))

  pub reads_whole_large : r ≡ [] → 0 < length w → ¬ (number_after 0 w < 2 ^ 63) → Reads bytes (Err TooLarge)
  reads_whole_large e h large =
      let value = number_after-zero w in
      let large' : 2 ^ 63 ≤ number_after 0 w = omega arith in
      (record { whole = w; decimals = None }, spells_whole e h, refl, omega arith)

  module _ (ds : List ℕ) (point : r ≡ 46 ∷ ds) (decimals : list_all is_ascii_digit ds ≡ true) (some : 0 < length w + length ds) where
    pub reads_too_fine : list_all (λ d. d == 48) (drop 3 ds) ≡ false → Reads bytes (Err TooFine)
    reads_too_fine h = (record { whole = w; decimals = Some ds }, spells_decimals ds point decimals some, h)

    pub reads_large : list_all (λ d. d == 48) (drop 3 ds) ≡ true → ¬ (digits_value (w ++ three_decimals ds) < 2 ^ 63) → Reads bytes (Err TooLarge)
    reads_large h large = (record { whole = w; decimals = Some ds }, spells_decimals ds point decimals some, h, omega arith)

    pub reads_thousandths : list_all (λ d. d == 48) (drop 3 ds) ≡ true → (n : ℕ) → digits_value (w ++ three_decimals ds) < 2 ^ 63
        → n ≡ digits_value (w ++ three_decimals ds) → Reads bytes (Ok (Thousandths (signed (has_minus bytes) n)))
    reads_thousandths h n small same =
        (record { whole = w; decimals = Some ds }, spells_decimals ds point decimals some, h, small, ap (λ m. Thousandths (signed (has_minus bytes) m)) same)

-- one more digit makes the number too large
pub too_large : (n start : ℕ) (ds : List ℕ) (i : ℕ) → i < length ds → number_after start ds ≡ number_after n (drop i ds) → 2 ^ 63 ≤ n * 10 + (get_or ds i 0 - 48) → ¬ (number_after start ds < 2 ^ 63)
too_large n start ds i h same large small =
    let cut = at_drop_more (number_after n) ds i 0 h in
    let least = number_after-le (n * 10 + (get_or ds i 0 - 48)) (drop (i + 1) ds) in
    omega arith

-- digits with three decimals after them
pub with_three : (w ds : List ℕ) → number_after (number_after 0 w) (three_decimals ds) ≡ digits_value (w ++ three_decimals ds)
with_three w ds = sym (number_after-append 0 w (three_decimals ds)) ∙ number_after-zero (w ++ three_decimals ds)

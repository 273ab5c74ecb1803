-- Numbers in decimal: what is read is spelled so, and what is spelled so is read again.
use Rattle.std.proofs.Common.{◌≡◌, ◌*◌, ◌-◌, get_or, drop, ℕ, zero, suc, ◌+◌, ◌<◌, ◌≤◌, ◌^◌, ◌==◌, ◌&&◌, nat_lt, Bool, true, false, cond, ℤ, pos, negsuc, List}
use Rattle.std.proofs.Common.{[], ◌∷◌, length, Option, Some, None, refl, sym, ap, ◌∙◌, subst, arith, rules, FitsSigned, w64}
use Rattle.std.specs.Prelude.{decimal}
use Rattle.std.specs.Fmt.{signed_decimal}
use Rattle.std.specs.Str.{bytes_eq}
use Rattle.std.specs.Char.{is_ascii_digit}
use Rattle.std.specs.List.{list_all}
use Rattle.std.proofs.lemmas.List.{at_drop_more}
use Rattle.vcm_num.proofs.Reading.{AllDigits-test, number_after-le}
use Rattle.std.proofs.lemmas.Bool.{ltb-true, eqb-true, and_parts}
use Rattle.std.proofs.lemmas.Slice.Eq.{bytes_eq-Decides}
use Rattle.std.proofs.lemmas.Str.Parse.{IsNumeralModel, numerals_by_fold}
use Rattle.std.proofs.lemmas.Fmt.{digits_decimal, digits_value-decimal, decimal_nonempty}
use Rattle.vcm_num.specs.Literals.{AllDigits, number_after}
use Rattle.vcm_words.specs.inner.Marks.{Without, IsWord}
use Rattle.vcm_words.specs.Numbers.{natural, negated, unsigned, whole, number, signed}
use Rattle.vcm_words.proofs.Inverse.{Means, only_met}

own : IsNumeralModel AllDigits (number_after 0)
own = numerals_by_fold AllDigits (search rules) number_after (search rules)

pub lt_true : (m n : ℕ) → m < n → nat_lt m n ≡ true
lt_true m n h = grind arith

pub natural_takes : (limit : ℕ) (w : List ℕ) (n : ℕ) → natural limit w ≡ Some n → (w ≡ decimal n) × (n < limit)
unfolding natural
natural_takes limit w n e =
    let m = only_met (nat_lt (number_after 0 w) limit && bytes_eq (decimal (number_after 0 w)) w) (number_after 0 w) n e in
    let t = and_parts _ _ m.0 in
    let same : decimal (number_after 0 w) ≡ w = (bytes_eq-Decides _ _).0 t.1 in
    (sym same ∙ ap decimal m.1, subst (λ k. k < limit) m.1 (ltb-true _ _ t.0))

pub natural_again : (limit n : ℕ) → n < limit → limit ≤ 2 ^ 64 → natural limit (decimal n) ≡ Some n
unfolding natural
natural_again limit n h l =
    let value : number_after 0 (decimal n) ≡ n = digits_value-decimal own n (omega arith) in
    rw (value, lt_true n limit h, (bytes_eq-Decides (decimal n) (decimal n)).1 refl) refl

natural_none : (limit : ℕ) (w : List ℕ) → ((n : ℕ) → natural limit w ≡ Some n → ⊥) → natural limit w ≡ None
natural_none limit w never = none (natural limit w) refl
  where
    none : (o : Option ℕ) → natural limit w ≡ o → o ≡ None
    none None e = refl
    none (Some n) e = absurd (never n e)

-- other bytes than digits are no number
pub no_digits : (limit : ℕ) (w : List ℕ) → limit < 2 ^ 64 → list_all is_ascii_digit w ≡ false → natural limit w ≡ None
no_digits limit w l h = natural_none limit w (λ n e.
    let t = natural_takes limit w n e in
    let all : list_all is_ascii_digit w ≡ true = AllDigits-test w (subst AllDigits (sym t.0) (digits_decimal own n (omega (arith, t.1)))) in
    let both : true ≡ false = sym all ∙ h in absurd cc)

-- a number that is too large for 64 bits
pub too_large : (limit : ℕ) (w : List ℕ) → limit < 2 ^ 64 → ¬ (number_after 0 w < 2 ^ 64) → natural limit w ≡ None
too_large limit w l h = natural_none limit w (λ n e.
    let t = natural_takes limit w n e in
    let value : number_after 0 w ≡ n = ap (number_after 0) t.0 ∙ digits_value-decimal own n (omega (arith, t.1)) in
    h (omega (arith, t.1)))

-- one more digit makes the number too large
pub one_too_many : (n : ℕ) (ds : List ℕ) (i : ℕ) → i < length ds → number_after 0 ds ≡ number_after n (drop i ds) → 2 ^ 64 ≤ n * 10 + (get_or ds i 0 - 48) → ¬ (number_after 0 ds < 2 ^ 64)
one_too_many n ds i h same large small =
    let cut = at_drop_more (number_after n) ds i 0 h in
    let least = number_after-le (n * 10 + (get_or ds i 0 - 48)) (drop (i + 1) ds) in
    omega arith

digit_isnt : (mark b : ℕ) → is_ascii_digit b ≡ true → mark < 48 → (b == mark) ≡ false
digit_isnt mark b e h = grind arith

digits_without : (mark : ℕ) (ds : List ℕ) → mark < 48 → AllDigits ds → Without mark ds
digits_without mark [] h d = tt
digits_without mark (b ∷ bs) h d = (digit_isnt mark b d.0 h, digits_without mark bs h d.1)

pub decimal_without : (mark n : ℕ) → mark < 48 → n < 2 ^ 64 → Without mark (decimal n)
decimal_without mark n h l = digits_without mark (decimal n) h (digits_decimal own n l)

high_isnt : (mark b : ℕ) → is_ascii_digit b ≡ true → 57 < mark → (b == mark) ≡ false
high_isnt mark b e h = grind arith

digits_without_high : (mark : ℕ) (ds : List ℕ) → 57 < mark → AllDigits ds → Without mark ds
digits_without_high mark [] h d = tt
digits_without_high mark (b ∷ bs) h d = (high_isnt mark b d.0 h, digits_without_high mark bs h d.1)

pub decimal_without_high : (mark n : ℕ) → 57 < mark → n < 2 ^ 64 → Without mark (decimal n)
decimal_without_high mark n h l = digits_without_high mark (decimal n) h (digits_decimal own n l)

pub decimal_digits : (n : ℕ) → n < 2 ^ 64 → AllDigits (decimal n)
decimal_digits n l = digits_decimal own n l

pub decimal_word : (n : ℕ) → n < 2 ^ 64 → IsWord (decimal n)
decimal_word n l = (decimal_without 32 n (omega arith) l, decimal_without 10 n (omega arith) l)

pub means_number : (limit : ℕ) → limit ≤ 2 ^ 64 → Means (number true limit) decimal (λ n. n < limit)
means_number limit l = record {
  takes = λ w n e. natural_takes limit w n e;
  again = λ n h. natural_again limit n h l;
  words = λ n h. decimal_word n (omega arith);
}

-- ---- signed numbers

negated_takes : (o : Option ℕ) (z : ℤ) → negated o ≡ Some z → (n : ℕ) × (o ≡ Some (suc n)) × (z ≡ negsuc n)
negated_takes None z e = absurd cc
negated_takes (Some zero) z e = absurd cc
negated_takes (Some (suc n)) z e = (n, refl, cc)

unsigned_takes : (o : Option ℕ) (z : ℤ) → unsigned o ≡ Some z → (n : ℕ) × (o ≡ Some n) × (z ≡ pos n)
unsigned_takes None z e = absurd cc
unsigned_takes (Some n) z e = (n, refl, cc)

minus_takes : (bs : List ℕ) (z : ℤ) → negated (natural (2 ^ 63 + 1) bs) ≡ Some z → (45 ∷ bs ≡ signed_decimal z) × FitsSigned w64 z
minus_takes bs z e =
    let p = negated_takes (natural (2 ^ 63 + 1) bs) z e in
    let t = natural_takes (2 ^ 63 + 1) bs (suc p.0) p.1 in
    let small : p.0 < 2 ^ 63 = omega (arith, t.1) in
    let fits : FitsSigned w64 (negsuc p.0) = omega (arith, small) in
    subst (λ (y : ℤ). (45 ∷ bs ≡ signed_decimal y) × FitsSigned w64 y) (sym p.2) (ap (λ r. 45 ∷ r) t.0, fits)

plain_takes : (bs : List ℕ) (z : ℤ) → unsigned (natural (2 ^ 63) bs) ≡ Some z → (bs ≡ signed_decimal z) × FitsSigned w64 z
plain_takes bs z e =
    let p = unsigned_takes (natural (2 ^ 63) bs) z e in
    let t = natural_takes (2 ^ 63) bs p.0 p.1 in
    let fits : FitsSigned w64 (pos p.0) = omega (arith, t.1) in
    subst (λ (y : ℤ). (bs ≡ signed_decimal y) × FitsSigned w64 y) (sym p.2) (t.0, fits)

pub whole_takes : (w : List ℕ) (z : ℤ) → whole w ≡ Some z → (w ≡ signed_decimal z) × FitsSigned w64 z
unfolding whole
whole_takes [] z e = absurd cc
whole_takes (b ∷ bs) z e = split (b == 45) refl e
  where
    split : (t : Bool) → (b == 45) ≡ t → cond t (negated (natural (2 ^ 63 + 1) bs)) (unsigned (natural (2 ^ 63) (b ∷ bs))) ≡ Some z → (b ∷ bs ≡ signed_decimal z) × FitsSigned w64 z
    split true t f = subst (λ (c : ℕ). (c ∷ bs ≡ signed_decimal z) × FitsSigned w64 z) (sym (eqb-true b 45 t)) (minus_takes bs z f)
    split false t f = plain_takes (b ∷ bs) z f

-- digits begin with no minus
plain_whole : (w : List ℕ) → 0 < length w → Without 45 w → whole w ≡ unsigned (natural (2 ^ 63) w)
unfolding whole
plain_whole [] l h = absurd (omega arith)
plain_whole (b ∷ bs) l h = rw h.0 refl

pub whole_again : (z : ℤ) → FitsSigned w64 z → whole (signed_decimal z) ≡ Some z
unfolding whole
whole_again (pos n) h =
    let small : n < 2 ^ 63 = omega (arith, h) in
    plain_whole (decimal n) (decimal_nonempty n (omega arith)) (decimal_without 45 n (omega arith) (omega arith)) ∙ ap unsigned (natural_again (2 ^ 63) n small (omega arith))
whole_again (negsuc n) h =
    let small : n < 2 ^ 63 = omega (arith, h) in
    ap negated (natural_again (2 ^ 63 + 1) (suc n) (omega arith) (omega arith))

signed_word : (z : ℤ) → FitsSigned w64 z → IsWord (signed_decimal z)
signed_word (pos n) h = let small : n < 2 ^ 63 = omega (arith, h) in decimal_word n (omega arith)
signed_word (negsuc n) h =
    let small : n < 2 ^ 63 = omega (arith, h) in
    let d = decimal_word (suc n) (omega arith) in ((refl, d.0), (refl, d.1))

pub signed_without_high : (mark : ℕ) (z : ℤ) → 57 < mark → FitsSigned w64 z → Without mark (signed_decimal z)
signed_without_high mark (pos n) h f = decimal_without_high mark n h (omega (arith, f))
signed_without_high mark (negsuc n) h f = (grind arith, decimal_without_high mark (suc n) h (omega (arith, f)))

pub means_signed : Means (signed true) signed_decimal (FitsSigned w64)
means_signed = record {
  takes = λ w z e. whole_takes w z e;
  again = λ z h. whole_again z h;
  words = λ z h. signed_word z h;
}

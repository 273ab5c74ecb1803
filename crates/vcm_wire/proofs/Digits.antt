-- The digits of a head.
use Rattle.std.proofs.Common.{◌≡◌, ◌≢◌, ℕ, ◌+◌, ◌-◌, ◌*◌, ◌<◌, ◌≤◌, true, false, List, [], ◌∷◌, ◌++◌, length, Option, Some, None, refl, sym, ap, ◌∙◌, subst}
use Rattle.std.proofs.Common.{append_assoc, codes, arith, rules, length-append}
use Rattle.std.specs.Char.{is_ascii_digit}
use Rattle.std.specs.Io.KnownBytes.{Consumes}
use Rattle.std.proofs.lemmas.Str.Parse.{IsNumeralModel, numerals_by_fold, digits_value_short}
use Rattle.vcm_num.specs.Literals.{AllDigits, number_after}
use Rattle.vcm_num.proofs.Reading.{AllDigits-push, cut_once, number_after-append, number_after-zero}
use Rattle.vcm_wire.specs.inner.Heads.{BeginsWithNone, IsNoneOf, HasDigits, IsEnded}
use Rattle.vcm_wire.specs.declared.frames.FrameFault.{FrameFault}
use Rattle.vcm_wire.specs.declared.frames.FrameFault.TheVariants.{Read, NoHead, TooLong, NoMemory}
use Rattle.vcm_wire.proofs.Heads.{none_read}
use Rattle.vcm_wire.proofs.Taking.{takes_nothing, takes_more}

pub own : IsNumeralModel AllDigits (number_after 0)
own = numerals_by_fold AllDigits (search rules) number_after (search rules)

-- so many digits were taken, and tell this number
pub record IsCounted (old new : Option (List ℕ)) (number count : ℕ) : Type 0 where
  pub digits : List ℕ
  pub all : AllDigits digits
  pub many : length digits ≡ count
  pub value : number_after 0 digits ≡ number
  pub taken : Consumes old new digits

pub none_counted : (a : Option (List ℕ)) → IsCounted a a 0 0
none_counted a = record { digits = []; all = tt; many = refl; value = refl; taken = takes_nothing a }

pub one_more : (a b c : Option (List ℕ)) (number count x : ℕ) → IsCounted a b number count → Consumes b c (x ∷ []) → is_ascii_digit x ≡ true
    → IsCounted a c (number * 10 + (x - 48)) (count + 1)
one_more a b c number count x h k d = record {
  digits = h.digits ++ x ∷ [];
  all = AllDigits-push h.digits x h.all d;
  many = omega (arith, length-append h.digits (x ∷ []), h.many);
  value = number_after-append 0 h.digits (x ∷ []) ∙ ap (λ n. n * 10 + (x - 48)) h.value;
  taken = takes_more a b c h.digits (x ∷ []) _ refl h.taken k;
}

pub small : (a b : Option (List ℕ)) (number count : ℕ) → IsCounted a b number count → count ≤ 8 → number < 100000000
small a b number count h l = subst (λ n. n < 100000000) h.value (digits_value_short own h.digits 8 h.all (omega (arith, h.many)))

-- the end of the digits
pub ended : (a b c : Option (List ℕ)) (number count : ℕ) → IsCounted a b number count → Consumes b c (13 ∷ []) → 0 < count → count ≤ 7 → HasDigits (codes "\r") a c number
ended a b c number count h k some few = record {
  digits = h.digits;
  is_length = (h.all, omega (arith, h.many), omega (arith, h.many));
  value = sym (number_after-zero h.digits) ∙ h.value;
  taken = takes_more a b c h.digits (13 ∷ []) _ refl h.taken k;
}

-- another byte behind digits than what ends them
pub other_end : (a b c : Option (List ℕ)) (number count x : ℕ) → IsCounted a b number count → Consumes b c (x ∷ []) → is_ascii_digit x ≡ false → (x ≡ 13 → 0 < count → ⊥)
    → BeginsWithNone (IsEnded (codes "\r")) a
other_end None b c number count x h k other not = tt
other_end (Some xs) None c number count x h k other not = absurd h.taken
other_end (Some xs) (Some ys) None number count x h k other not = absurd k
other_end (Some xs) (Some ys) (Some zs) number count x h k other not = λ text rest more is e.
    let left : text ++ rest ≡ is.0 ++ (13 ∷ rest) = ap (λ t. t ++ rest) is.2 ∙ append_assoc is.0 (13 ∷ []) rest in
    let right : xs ++ more ≡ h.digits ++ (x ∷ (zs ++ more)) = ap (λ t. t ++ more) (h.taken ∙ ap (λ t. h.digits ++ t) k) ∙ append_assoc h.digits (x ∷ zs) more in
    let once = cut_once is.0 h.digits (13 ∷ rest) (x ∷ (zs ++ more)) is.1.0 h.all refl other (sym left ∙ e ∙ right) in
    let same : 13 ≡ x = let both = once.1 in cc in
    not (sym same) (omega (arith, ap length once.0, h.many, is.1.1))

-- what is no digit, where a digit is
too_many : (w v r s : List ℕ) (c : ℕ) → AllDigits v → is_ascii_digit c ≡ false → length w < length v → w ++ c ∷ r ≢ v ++ s
too_many w [] r s c dv other l e = absurd (omega (arith, l))
too_many [] (b ∷ v) r s c dv other l e = let heads : c ≡ b = cc in let digit = dv.0 in absurd (cc (heads, digit, other))
too_many (a ∷ w) (b ∷ v) r s c dv other l e = let tails : w ++ c ∷ r ≡ v ++ s = cc in too_many w v r s c dv.1 other (omega (arith, l)) tails

-- more than seven digits
pub too_long : (a b : Option (List ℕ)) (number count : ℕ) → IsCounted a b number count → 7 < count → BeginsWithNone (IsEnded (codes "\r")) a
too_long None b number count h l = tt
too_long (Some xs) None number count h l = absurd h.taken
too_long (Some xs) (Some ys) number count h l = λ text rest more is e.
    let left : text ++ rest ≡ is.0 ++ (13 ∷ rest) = ap (λ t. t ++ rest) is.2 ∙ append_assoc is.0 (13 ∷ []) rest in
    let right : xs ++ more ≡ h.digits ++ (ys ++ more) = ap (λ t. t ++ more) h.taken ∙ append_assoc h.digits ys more in
    too_many is.0 h.digits rest (ys ++ more) 13 h.all refl (omega (arith, h.many, is.1.2, l)) (sym left ∙ e ∙ right)

-- the rest of the end of a head is another one
pub end_missing : (a b : Option (List ℕ)) (n : ℕ) → HasDigits (codes "\r") a b n → BeginsWithNone (λ t. t ≡ codes "\n\r\n") b → BeginsWithNone (IsEnded (codes "\r\n\r\n")) a
end_missing None b n h none = tt
end_missing (Some xs) None n h none = absurd h.taken
end_missing (Some xs) (Some ys) n h none = λ text rest more is e.
    let left : text ++ rest ≡ is.0 ++ (13 ∷ 10 ∷ 13 ∷ 10 ∷ rest) = ap (λ t. t ++ rest) is.2 ∙ append_assoc is.0 (codes "\r\n\r\n") rest in
    let right : xs ++ more ≡ h.digits ++ (13 ∷ (ys ++ more)) = ap (λ t. t ++ more) (h.taken ∙ append_assoc h.digits (codes "\r") ys) ∙ append_assoc h.digits (13 ∷ ys) more in
    let once = cut_once is.0 h.digits _ _ is.1.0 h.is_length.0 refl refl (sym left ∙ e ∙ right) in
    let same : 10 ∷ 13 ∷ 10 ∷ rest ≡ ys ++ more = let both = once.1 in cc in
    none (codes "\n\r\n") rest more refl same

pub end_read : (a b : Option (List ℕ)) (n : ℕ) (f : FrameFault) → HasDigits (codes "\r") a b n → IsNoneOf (λ t. t ≡ codes "\n\r\n") b f → IsNoneOf (IsEnded (codes "\r\n\r\n")) a f
end_read a b n Read h none = tt
end_read a b n NoHead h none = end_missing a b n h none
end_read a b n TooLong h none = absurd none
end_read a b n NoMemory h none = absurd none

-- where no digits and no carriage return are read, no end of a head is
pub no_digits : (a : Option (List ℕ)) (f : FrameFault) → IsNoneOf (IsEnded (codes "\r")) a f → IsNoneOf (IsEnded (codes "\r\n\r\n")) a f
no_digits a f none =
    none_read (IsEnded (codes "\r\n\r\n")) (IsEnded (codes "\r")) a a [] f (takes_nothing a)
    (λ text is. (is.0 ++ codes "\r", codes "\n\r\n", (is.0, is.1, refl), is.2 ∙ sym (append_assoc is.0 (codes "\r") (codes "\n\r\n")))) none

pub whole_end : (a b c : Option (List ℕ)) (n : ℕ) → HasDigits (codes "\r") a b n → Consumes b c (codes "\n\r\n") → HasDigits (codes "\r\n\r\n") a c n
whole_end a b c n h k = record {
  digits = h.digits;
  is_length = h.is_length;
  value = h.value;
  taken = takes_more a b c (h.digits ++ codes "\r") (codes "\n\r\n") _ (append_assoc h.digits (codes "\r") (codes "\n\r\n")) h.taken k;
}

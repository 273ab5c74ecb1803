-- Spelled texts are read again.
use Rattle.std.proofs.Common.{◌≡◌, ℕ, zero, suc, ◌+◌, ◌*◌, ◌/◌, ◌%◌, ◌<◌, ◌==◌, Bool, true, false, List, [], ◌∷◌, ◌++◌, refl, sym, ap, ◌∙◌, subst, arith}
use Rattle.std.specs.Prelude.{◌&&◌}
use Rattle.std.proofs.lemmas.Bool.{eqb-true}
use Rattle.vcm_rows.specs.Spelled.{is_plain, hex_digit, spelled_byte, spelled}
use Rattle.vcm_story.specs.Laws.{digit_value, read_text, TextsAreRead}

-- a test of all numbers below one
abbrev pub tested : (ℕ → Bool) → ℕ → Bool
tested test zero = true
tested test (suc n) = tested test n && test n

pub both : (x y : Bool) → (x && y) ≡ true → (x ≡ true) × (y ≡ true)
both true y e = (refl, e)
both false y e = absurd cc

pub holds_at : (test : ℕ → Bool) (n i : ℕ) → tested test n ≡ true → i < n → test i ≡ true
holds_at test zero i e l = absurd (omega arith)
holds_at test (suc n) i e l = by (i == n) refl (λ m. holds_at test n i (both (tested test n) (test n) e).0 m)
  where
    by : (b : Bool) → (i == n) ≡ b → (i < n → test i ≡ true) → test i ≡ true
    by true same next = subst (λ k. test k ≡ true) (sym (eqb-true i n same)) (both (tested test n) (test n) e).1
    by false other next = next (grind (arith, l, other))

-- a digit is read as its number
digit_read : (n : ℕ) → n < 16 → digit_value (hex_digit n) ≡ n
digit_read n l = eqb-true _ _ (holds_at (λ n. digit_value (hex_digit n) == n) 16 n refl l)

-- a byte other than % is read as itself
itself : (b : ℕ) (bs : List ℕ) → (b == 37) ≡ false → read_text (b ∷ bs) ≡ b ∷ read_text bs
itself b [] e = refl
itself b (h ∷ []) e = refl
itself b (h ∷ l ∷ bs) e = rw e refl

-- a plain byte is not %
plain_other : (b : ℕ) → is_plain b ≡ true → (b == 37) ≡ false
plain_other b e = grind (arith, e)

-- a byte of a text
byte_read : (b : ℕ) (bs : List ℕ) → b < 256 → read_text (spelled_byte b ++ bs) ≡ b ∷ read_text bs
byte_read b bs l = by (is_plain b) refl
  where
    by : (p : Bool) → is_plain b ≡ p → read_text (spelled_byte b ++ bs) ≡ b ∷ read_text bs
    by true e = rw e (itself b bs (plain_other b e))
    by false e =
        let high = digit_read (b / 16) (omega (arith, l)) in
        let low = digit_read (b % 16) (omega arith) in
        let all : 16 * (b / 16) + b % 16 ≡ b = omega arith in
        rw (e, high, low, all) refl

pub texts_read : TextsAreRead
texts_read [] h = refl
texts_read (b ∷ bs) h = byte_read b (spelled bs) h.0 ∙ ap (λ l. b ∷ l) (texts_read bs h.1)

-- The word with a byte stands at that place of the table.
use Rattle.std.proofs.Common.{◌≡◌, ℕ, zero, suc, ◌+◌, ◌==◌, Bool, true, false, cond, List, [], ◌∷◌, Some, slice_get, inl, inr, refl, sym, ap, ◌∙◌, subst, arith}
use Rattle.std.specs.Prelude.{map, option_map}
use Rattle.std.proofs.lemmas.Option.{slice_get-map}
use Rattle.std.proofs.lemmas.Bool.Decides.{eqb_tells}
use Rattle.std.proofs.lemmas.Bool.{eq-eqb}
use Rattle.vcm_code.specs.declared.word.Word.{Word}
use Rattle.vcm_code.specs.Shape.{all_words}
use Rattle.vcm_code.specs.Words.{word_byte, with_byte}

-- the bytes of these words go up by 1, from one on
abbrev AreCounted : ℕ → List Word → Type 0
AreCounted n [] = Unit {0}
AreCounted n (w ∷ ws) = (word_byte w ≡ n) × AreCounted (suc n) ws

-- what stands in a choice whose test is decided
chosen : {A : Type 0} (t : Bool) (x y : A) → t ≡ true → cond t x y ≡ x
chosen true x y e = refl
chosen false x y e = absurd cc

passed : {A : Type 0} (t : Bool) (x y : A) → t ≡ false → cond t x y ≡ y
passed true x y e = absurd cc
passed false x y e = refl

counted_at : (n : ℕ) (ws : List Word) → AreCounted n ws → (i : ℕ) → with_byte (n + i) ws ≡ slice_get ws i
unfolding with_byte
counted_at n [] h i = refl
counted_at n (w ∷ ws) h zero =
    let e : (n + 0 == word_byte w) ≡ true = eq-eqb (n + 0) (word_byte w) (omega (arith, h.0)) in
    chosen (n + 0 == word_byte w) (Some w) (with_byte (n + 0) ws) e
counted_at n (w ∷ ws) h (suc i) =
    let e : (n + suc i == word_byte w) ≡ false = elim (eqb_tells (n + suc i) (word_byte w)) [
      | inl p ↦ absurd (omega (arith, h.0, p.1))
      | inr p ↦ p.0
    ] in
    let m : n + suc i ≡ suc n + i = omega arith in
    passed (n + suc i == word_byte w) (Some w) (with_byte (n + suc i) ws) e
    ∙ subst (λ (k : ℕ). with_byte k ws ≡ slice_get ws i) (sym m) (counted_at (suc n) ws h.1 i)

are_counted : AreCounted 0 all_words
are_counted = (refl, (refl, (refl, (refl, (refl, (refl, (refl, (refl, (refl, (refl, (refl, (refl, (refl, (refl, (refl, (refl, (refl, (refl, (refl, (refl, (refl, (refl, (refl, (refl, (refl, (refl, (refl, tt)))))))))))))))))))))))))))

-- the word with a byte is the one in that row of a table of all words
pub word_in_row : {A : Type 0} (rows : List (A × Word)) → map (λ row. row.1) rows ≡ all_words → (k : ℕ) → with_byte k all_words ≡ option_map (λ row. row.1) (slice_get rows k)
word_in_row rows e k =
    let m : 0 + k ≡ k = omega arith in
    subst (λ (i : ℕ). with_byte i all_words ≡ slice_get all_words k) m (counted_at 0 all_words are_counted k)
    ∙ ap (λ (ws : List Word). slice_get ws k) (sym e) ∙ slice_get-map (λ row. row.1) rows k

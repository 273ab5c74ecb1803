-- Flags of the statements of a source line, one statement after another.
use Rattle.std.proofs.Common.{◌≡◌, ℕ, zero, suc, ◌+◌, ◌<◌, ◌==◌, ◌≢◌, Bool, true, false, List, [], ◌∷◌, length, take, refl, sym, ap, ◌∙◌, if◌then◌else◌, arith, set, eq-eqb}
use Rattle.std.proofs.lemmas.Bool.{ne_eqb}
use Rattle.std.specs.Prelude.{slice_get, slice_set}
use Rattle.vcm_code.specs.Code.{CodeStatement}
use Rattle.vcm_debug.specs.Session.{line_in, flagged}

module _ (line : ℕ) (flag : Bool) where
  -- as many flags as before
  pub as_many : (ss : List CodeStatement) (bs : List Bool) → length ss ≡ length bs → length (flagged line flag ss bs) ≡ length bs
  as_many [] bs e = refl
  as_many (s ∷ ss) [] e = refl
  as_many (s ∷ ss) (b ∷ bs) e = ap suc (as_many ss bs (omega (arith, e)))

  -- one statement more
  pub one_flag : (n : ℕ) (ss : List CodeStatement) (bs : List Bool) → n < length ss → length bs ≡ length ss
      → flagged line flag (take (suc n) ss) bs
      ≡ (if line_in (slice_get ss n) == line then slice_set (flagged line flag (take n ss) bs) n flag else flagged line flag (take n ss) bs)
  one_flag n [] bs l e = absurd (omega (arith, l))
  one_flag n (s ∷ ss) [] l e = absurd (omega (arith, e))
  one_flag zero (s ∷ ss) (b ∷ bs) l e = by_line (s.line == line)
    where
      by_line : (x : Bool) → (if x then flag else b) ∷ bs ≡ (if x then flag ∷ bs else b ∷ bs)
      by_line true = refl
      by_line false = refl
  one_flag (suc n) (s ∷ ss) (b ∷ bs) l e =
      ap (λ xs. first ∷ xs) (one_flag n ss bs (omega (arith, l)) (omega (arith, e))) ∙ by_line (line_in (slice_get ss n) == line)
    where
      first : Bool
      first = if s.line == line then flag else b

      rest : List Bool
      rest = flagged line flag (take n ss) bs

      by_line : (x : Bool) → first ∷ (if x then slice_set rest n flag else rest) ≡ (if x then slice_set (first ∷ rest) (suc n) flag else first ∷ rest)
      by_line true = refl
      by_line false = refl

  -- the flag of one statement more
  flag_more : (n : ℕ) (ss : List CodeStatement) (bs : List Bool) → n < length ss → length bs ≡ length ss → (x : Bool) → (line_in (slice_get ss n) == line) ≡ x
      → flagged line flag (take (n + 1) ss) bs ≡ (if x then slice_set (flagged line flag (take n ss) bs) n flag else flagged line flag (take n ss) bs)
  flag_more n ss bs l e x q =
      ap (λ k. flagged line flag (take k ss) bs) (let m : n + 1 ≡ suc n = omega arith in m)
      ∙ one_flag n ss bs l e ∙ ap (λ b. if b then slice_set (flagged line flag (take n ss) bs) n flag else flagged line flag (take n ss) bs) q

  -- the statement is of the line
  pub flag_on : (n : ℕ) (ss : List CodeStatement) (bs now new : List Bool) → n < length ss → length bs ≡ length ss → now ≡ flagged line flag (take n ss) bs
      → line_in (slice_get ss n) ≡ line → new ≡ slice_set now n flag → new ≡ flagged line flag (take (n + 1) ss) bs
  flag_on n ss bs now new l e i at is = is ∙ ap (λ x. slice_set x n flag) i ∙ sym (flag_more n ss bs l e true (eq-eqb _ _ at))

  -- it isn't
  pub keep_on : (n : ℕ) (ss : List CodeStatement) (bs now new : List Bool) → n < length ss → length bs ≡ length ss → now ≡ flagged line flag (take n ss) bs
      → line_in (slice_get ss n) ≢ line → new ≡ now → new ≡ flagged line flag (take (n + 1) ss) bs
  keep_on n ss bs now new l e i at is = is ∙ i ∙ sym (flag_more n ss bs l e false (ne_eqb _ _ at))

-- The search for a short name that isn't taken, step by step.
use Rattle.std.proofs.Common.{◌≡◌, ℕ, suc, ◌+◌, ◌-◌, ◌<◌, ◌≤◌, Bool, true, false, if◌then◌else◌, List, Some, None, refl, sym, ap, ◌∙◌, arith, add-one}
use Rattle.vcm_short_names.specs.declared.pieces.Piece.{Piece}
use Rattle.vcm_short_names.specs.declared.short.ShortName.{ShortName}
use Rattle.vcm_short_names.specs.Short.{made_short, is_taken, free_from}

module _ (ps : List Piece) (names : List ShortName) (long : List ℕ) where
  found_here : (k n : ℕ) → is_taken ps names (made_short n long) ≡ false → free_from ps names long (suc k) n ≡ Some (made_short n long)
  unfolding free_from
  found_here k n e = ap (λ (t : Bool). if t then free_from ps names long k (suc n) else Some (made_short n long)) e

  found_behind : (k n : ℕ) → is_taken ps names (made_short n long) ≡ true → free_from ps names long (suc k) n ≡ free_from ps names long k (suc n)
  unfolding free_from
  found_behind k n e = ap (λ (t : Bool). if t then free_from ps names long k (suc n) else Some (made_short n long)) e

  found_nowhere : (n : ℕ) → free_from ps names long 0 n ≡ None
  unfolding free_from
  found_nowhere n = refl

  -- what is left to search, of so many in all
  abbrev pub IsLeft : ℕ → ℕ → Type 0
  IsLeft most n = (k : ℕ) → n + k ≡ most → free_from ps names long most 0 ≡ free_from ps names long k n

  pub ends_here : (most n : ℕ) (short : List ℕ) → IsLeft most n → n < most → short ≡ made_short n long → is_taken ps names short ≡ false → Some short ≡ free_from ps names long most 0
  ends_here most n short left more is free =
      let e : n + suc (most - (n + 1)) ≡ most = omega arith in
      let f : is_taken ps names (made_short n long) ≡ false = sym (ap (is_taken ps names) is) ∙ free in
      ap Some is ∙ sym (found_here (most - (n + 1)) n f) ∙ sym (left (suc (most - (n + 1))) e)

  pub goes_on : (most n : ℕ) (short : List ℕ) → IsLeft most n → short ≡ made_short n long → is_taken ps names short ≡ true → IsLeft most (n + 1)
  goes_on most n short left is taken k e =
      let more : n + suc k ≡ most = omega arith in
      let f : is_taken ps names (made_short n long) ≡ true = sym (ap (is_taken ps names) is) ∙ taken in
      left (suc k) more ∙ found_behind k n f ∙ ap (λ m. free_from ps names long k m) (sym (add-one n))

  pub ends_nowhere : (most n : ℕ) → IsLeft most n → n ≤ most → most ≤ n → None ≡ free_from ps names long most 0
  ends_nowhere most n left within all =
      let e : n + 0 ≡ most = omega arith in
      sym (left 0 e ∙ found_nowhere n)

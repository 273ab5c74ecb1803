-- Shifts, one more at a time.
use Rattle.std.proofs.Common.{◌≡◌, ℕ, ◌+◌, ◌-◌, ◌<◌, List, [], ◌∷◌, ◌++◌, length, get_or, drop, Result, Ok, Err, sym, ap, ◌∙◌, arith}
use Rattle.std.proofs.lemmas.List.{drop_all, drop_more}
use Rattle.vcm_lines.specs.declared.fault.FaultCode.{FaultCode}
use Rattle.vcm_lines.specs.declared.fault.FaultCode.TheVariants.{BadSyntax}
use Rattle.vcm_lines.specs.Lexemes.{Lexeme}
use Rattle.vcm_spec.specs.Results.{◌>>=◌}
use Rattle.vcm_forms.specs.declared.statement.Offset.{Offset}
use Rattle.vcm_syntax.specs.Measuring.{offset_of, offsets_of}

-- these are the shifts of the first i fields: with those of the fields behind them they are those of all
pub record AreShifted (fs : List (List Lexeme)) (i : ℕ) (os : List Offset) : Type 0 where
  pub whole : offsets_of [] fs ≡ offsets_of os (drop i fs)

-- the next field, and those behind it
next_field : (fs : List (List Lexeme)) (i : ℕ) (w : List Lexeme) → i < length fs → w ≡ get_or fs i w → drop i fs ≡ w ∷ drop (i + 1) fs
next_field fs i w lt e = drop_more fs i w lt ∙ ap (λ (x : List Lexeme). x ∷ drop (i + 1) fs) (sym e)

-- a field that nothing stands behind
pub shift_alone : (fs : List (List Lexeme)) (i : ℕ) (os : List Offset) → AreShifted fs i os → i < length fs → length fs - i < 2 → offsets_of [] fs ≡ Err BadSyntax
shift_alone fs i os inv lt one =
    let d : drop i fs ≡ get_or fs i [] ∷ [] = drop_more fs i [] lt ∙ ap (λ (x : List (List Lexeme)). get_or fs i [] ∷ x) (drop_all (i + 1) fs (omega (arith, lt, one))) in
    inv.whole ∙ ap (offsets_of os) d

-- the next two fields, and those behind them
next_fields : (fs : List (List Lexeme)) (i : ℕ) (w e : List Lexeme) → i + 1 < length fs → w ≡ get_or fs i w → e ≡ get_or fs (i + 1) e
    → drop i fs ≡ w ∷ e ∷ drop (i + 2) fs
next_fields fs i w e lt p q =
    let k : i + 1 + 1 ≡ i + 2 = omega arith in
    next_field fs i w (omega (arith, lt)) p ∙ ap (λ (x : List (List Lexeme)). w ∷ x) (next_field fs (i + 1) e lt q ∙ ap (λ (n : ℕ). e ∷ drop n fs) k)

-- what stands behind a shift
abbrev rest_of : List Offset → List (List Lexeme) → Result Offset FaultCode → Result (List Offset) FaultCode
rest_of os fs r = r >>= λ o. offsets_of (os ++ o ∷ []) fs

-- one shift more, or its fault
pub next_shift : (fs : List (List Lexeme)) (i : ℕ) (os : List Offset) (w e : List Lexeme) (r : Result Offset FaultCode) → AreShifted fs i os
    → i + 1 < length fs → w ≡ get_or fs i w → e ≡ get_or fs (i + 1) e → offset_of os w e ≡ r → offsets_of [] fs ≡ rest_of os (drop (i + 2) fs) r
next_shift fs i os w e r inv lt p q is =
    inv.whole ∙ ap (offsets_of os) (next_fields fs i w e lt p q) ∙ ap (rest_of os (drop (i + 2) fs)) is

-- one shift more
pub shift_goes : (fs : List (List Lexeme)) (i : ℕ) (os more : List Offset) (w e : List Lexeme) (o : Offset) → AreShifted fs i os
    → i + 1 < length fs → w ≡ get_or fs i w → e ≡ get_or fs (i + 1) e → offset_of os w e ≡ Ok o → more ≡ os ++ o ∷ [] → AreShifted fs (i + 2) more
shift_goes fs i os more w e o inv lt p q is pushed = rw pushed record { whole = next_shift fs i os w e (Ok o) inv lt p q is }

-- Variables that fields declare, field by field.
use Rattle.std.proofs.Common.{◌≡◌, ℕ, zero, suc, ◌-◌, List, ◌++◌, Option, Some, refl, ap, sym, ◌∙◌}
use Rattle.std.specs.Prelude.{Result, OnOk}
use Rattle.std.proofs.lemmas.Result.{on_ok_weaker}
use native.Mathlib.Numerals.{unary_clauses}
use Rattle.std.proofs.lemmas.List.{append_assoc}
use Rattle.vcm_lines.specs.declared.phrase.Cutter.TheVariants.{AtComma}
use Rattle.vcm_lines.specs.Lexemes.{Lexeme}
use Rattle.vcm_lines.specs.Cuts.{before, after}
use Rattle.vcm_compared.specs.declared.texts.Held.{Held}
use Rattle.vcm_compared.specs.Texts.{held_by, held_from}

-- the same, where there are fields
more_of : (n most : ℕ) (ws : List Lexeme) → (n ≡ 0 → ⊥) → held_from n most (Some ws) ≡ held_by most (before AtComma ws) ++ held_from (n - 1) most (after AtComma ws)
unfolding held_from
more_of zero most ws h = absurd (h refl)
more_of (suc n) most ws h = simp unary_clauses

-- fields declare what their first one does, and then what those behind it do
held_more : (n most : ℕ) (fs : Option (List Lexeme)) (ws : List Lexeme) → fs ≡ Some ws → (n ≡ 0 → ⊥)
    → held_from n most fs ≡ held_by most (before AtComma ws) ++ held_from (n - 1) most (after AtComma ws)
held_more n most fs ws e h = ap (held_from n most) e ∙ more_of n most ws h

-- what is put by the first field, and behind it by the others, is what all declare
pub held_put : {T E : Type 0} {mid : List Held} {fs rest : Option (List Lexeme)} {ws front : List Lexeme} (old new : List Held) (n most : ℕ) (r : Result T E) → fs ≡ Some ws → (n ≡ 0 → ⊥)
    → mid ≡ old ++ held_by most front → front ≡ before AtComma ws → rest ≡ after AtComma ws → OnOk r (new ≡ mid ++ held_from (n - 1) most rest)
    → OnOk r (new ≡ old ++ held_from n most fs)
held_put {mid = mid} {fs = fs} {rest = rest} {ws = ws} {front = front} old new n most r e h first cut behind =
    on_ok_weaker r (λ others. others
    ∙ ap (λ o. mid ++ held_from (n - 1) most o) behind
    ∙ ap (λ o. o ++ held_from (n - 1) most (after AtComma ws)) (first ∙ ap (λ o. old ++ held_by most o) cut)
    ∙ append_assoc old (held_by most (before AtComma ws)) (held_from (n - 1) most (after AtComma ws))
    ∙ ap (λ o. old ++ o) (sym (held_more n most fs ws e h)))

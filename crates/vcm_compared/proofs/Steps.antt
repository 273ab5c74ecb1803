-- One step of definitions that read so many fields or rounds at most.
use Rattle.std.proofs.Common.{◌≡◌, refl, sym, ap, ◌∙◌, ℕ, zero, suc, ◌-◌, Bool, false, ◌&&◌, List, Some}
use Rattle.std.specs.List.{list_all, filter}
use native.Mathlib.Numerals.{unary_clauses}
use Rattle.vcm_lines.specs.declared.logical.Logical.{Logical}
use Rattle.vcm_lines.specs.declared.phrase.Cutter.TheVariants.{AtComma}
use Rattle.vcm_lines.specs.Lexemes.{Lexeme}
use Rattle.vcm_lines.specs.Cuts.{before, after}
use Rattle.vcm_compared.specs.declared.texts.Held.{Held}
use Rattle.vcm_compared.specs.declared.texts.Texts.{Texts}
use Rattle.vcm_compared.specs.Counted.{is_clean, are_clean, is_followed, if_all, without_others, narrowed}

-- ---- fields

pub clean_step : (n : ℕ) (name : List ℕ) (ws : List Lexeme) → are_clean (suc n) name (Some ws) ≡ is_clean name (before AtComma ws) && are_clean n name (after AtComma ws)
unfolding are_clean
clean_step n name ws = refl

-- ---- rounds

-- one round more, where there may be one
narrowed_more : (n : ℕ) (ls : List Logical) (t : Texts) → (n ≡ 0 → ⊥) → narrowed n ls t ≡ if_all (list_all (is_followed t ls) t.held) t (narrowed (n - 1) ls (without_others t ls))
unfolding narrowed
narrowed_more zero ls t h = absurd (h refl)
narrowed_more (suc n) ls t h = simp unary_clauses

-- a round in which not all are followed leaves the others out
pub narrowed_goes : {b : Bool} {hs : List Held} {u : Texts} (n : ℕ) (ls : List Logical) (t : Texts) → (n ≡ 0 → ⊥) → b ≡ list_all (is_followed t ls) t.held → b ≡ false
    → hs ≡ filter (is_followed t ls) t.held → u ≡ record t { held = hs } → narrowed n ls t ≡ narrowed (n - 1) ls u
narrowed_goes n ls t h is some held made =
    narrowed_more n ls t h
    ∙ ap (λ b. if_all b t (narrowed (n - 1) ls (without_others t ls))) (sym is ∙ some)
    ∙ ap (λ xs. narrowed (n - 1) ls (record t { held = xs })) (sym held)
    ∙ ap (narrowed (n - 1) ls) (sym made)

-- Fields of SNSET, pair by pair.
use Rattle.std.proofs.Common.{◌≡◌, ℕ, zero, suc, ◌-◌, List, ◌++◌, Option, Some, None, refl, ap, sym, ◌∙◌}
use Rattle.std.specs.Prelude.{Result, OnOk}
use Rattle.std.proofs.lemmas.Result.{on_ok_weaker}
use native.Mathlib.Numerals.{unary_clauses}
use Rattle.std.proofs.lemmas.List.{map-append, append_assoc}
use Rattle.vcm_lines.specs.Lexemes.{Lexeme}
use Rattle.vcm_forms.specs.declared.statement.Statement.{Statement}
use Rattle.vcm_said.specs.All.{on_line}
use Rattle.vcm_said.specs.Settings.{pair_said, behind_pair, pairs_said}

-- the same, where there are fields
more_of : (line n : ℕ) (ws : List Lexeme) → (n ≡ 0 → ⊥)
    → on_line line (pairs_said n (Some ws)) ≡ on_line line (pair_said ws) ++ on_line line (pairs_said (n - 1) (behind_pair ws))
unfolding pairs_said
more_of line zero ws h = absurd (h refl)
more_of line (suc n) ws h = simp unary_clauses (map-append (λ f. record { line = line; form = f }) (pair_said ws) (pairs_said n (behind_pair ws)))

-- fields say what their first pair says, and then what those behind it do
pub pairs_more : (line n : ℕ) (fs : Option (List Lexeme)) (ws : List Lexeme) → fs ≡ Some ws → (n ≡ 0 → ⊥)
    → on_line line (pairs_said n fs) ≡ on_line line (pair_said ws) ++ on_line line (pairs_said (n - 1) (behind_pair ws))
pairs_more line n fs ws e h = ap (λ o. on_line line (pairs_said n o)) e ∙ more_of line n ws h

-- what is put by the first pair, and behind it by the others, is what all say
pub pairs_put : {T E : Type 0} {mid : List Statement} {fs rest : Option (List Lexeme)} {ws : List Lexeme} (old new : List Statement) (line n : ℕ) (r : Result T E) → fs ≡ Some ws → (n ≡ 0 → ⊥)
    → mid ≡ old ++ on_line line (pair_said ws) → rest ≡ behind_pair ws → OnOk r (new ≡ mid ++ on_line line (pairs_said (n - 1) rest))
    → OnOk r (new ≡ old ++ on_line line (pairs_said n fs))
pairs_put {mid = mid} {fs = fs} {rest = rest} {ws = ws} old new line n r e h first behind =
    on_ok_weaker r (λ others. others
    ∙ ap (λ o. mid ++ on_line line (pairs_said (n - 1) o)) behind
    ∙ ap (λ o. o ++ on_line line (pairs_said (n - 1) (behind_pair ws))) first
    ∙ append_assoc old (on_line line (pair_said ws)) (on_line line (pairs_said (n - 1) (behind_pair ws)))
    ∙ ap (λ o. old ++ o) (sym (pairs_more line n fs ws e h)))

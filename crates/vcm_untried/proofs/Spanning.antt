-- Lines to which one more is added.
use Rattle.std.proofs.Common.{◌≡◌, ℕ, Bool, true, false, List, [], ◌∷◌, ◌++◌, refl, sym, ap, ◌∙◌, append_assoc}
use Rattle.std.specs.Prelude.{if◌then◌else◌}
use Rattle.vcm_untried.specs.declared.spans.Span.{Span}
use Rattle.vcm_untried.specs.Spans.{alone, joins, longer, one_line, add_span}

-- the last one grows, or is followed by another
pub add_last : (spans : List Span) (s : Span) (line count : ℕ) → add_span (spans ++ s ∷ []) line count ≡ spans ++ one_line s line count
add_last [] s line count = refl
add_last (t ∷ []) s line count = refl
add_last (t ∷ u ∷ spans) s line count = ap (λ l. t ∷ l) (add_last (u ∷ spans) s line count)

module _ (old spans : List Span) (s : Span) (line count : ℕ) (is : old ≡ spans ++ s ∷ []) where
  added : (b : Bool) → joins s line count ≡ b → add_span old line count ≡ spans ++ (if b then longer s line ∷ [] else s ∷ alone line count ∷ [])
  added b e =
      ap (λ l. add_span l line count) is ∙ add_last spans s line count
      ∙ ap (λ c. spans ++ (if c then longer s line ∷ [] else s ∷ alone line count ∷ [])) e

  pub joined : joins s line count ≡ true → (new : List Span) → new ≡ spans ++ longer s line ∷ [] → new ≡ add_span old line count
  joined e new n = n ∙ sym (added true e)

  pub followed : joins s line count ≡ false → (mid new : List Span) → mid ≡ spans ++ s ∷ [] → new ≡ mid ++ alone line count ∷ [] → new ≡ add_span old line count
  followed e mid new m n = n ∙ ap (λ l. l ++ alone line count ∷ []) m ∙ append_assoc spans (s ∷ []) (alone line count ∷ []) ∙ sym (added false e)

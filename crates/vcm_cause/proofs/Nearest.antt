-- Blocks one after the other.
use Rattle.std.proofs.Common.{◌≡◌, ℕ, ◌+◌, ◌<◌, ◌≤◌, List, ◌∷◌, length, get_or, drop, Option, sym, ap, ◌∙◌}
use Rattle.std.proofs.lemmas.List.{drop_more, drop_all}
use Rattle.vcm_num.specs.declared.point.Point.{Point}
use Rattle.vcm_spec.specs.declared.workpiece.Block3.{Block3}
use Rattle.vcm_cause.specs.declared.ahead.Ahead.{Ahead}
use Rattle.vcm_cause.specs.Ahead.{far_to, nearer, nearest_of}

module _ (tip : ℕ) (a b : Point) (blocks : List Block3) (i : ℕ) (found : Option Ahead) (number : ℕ) (total : Option Ahead) where
  -- one block more
  pub one_more : (x : Block3) (next : Option Ahead) (after : ℕ) → i < length blocks → get_or blocks i x ≡ x → nearest_of tip a b found number (drop i blocks) ≡ total
      → after ≡ number + 1 → next ≡ nearer found (number + 1) (far_to tip a b x) → nearest_of tip a b next after (drop (i + 1) blocks) ≡ total
  one_more x next after lt at so_far e one =
      ap (λ n. nearest_of tip a b next n (drop (i + 1) blocks)) e ∙ ap (λ f. nearest_of tip a b f (number + 1) (drop (i + 1) blocks)) one
      ∙ ap (nearest_of tip a b found number) (sym (drop_more blocks i x lt ∙ ap (λ y. y ∷ drop (i + 1) blocks) at)) ∙ so_far

  -- none is left
  pub none_left : length blocks ≤ i → nearest_of tip a b found number (drop i blocks) ≡ total → found ≡ total
  none_left le so_far = ap (nearest_of tip a b found number) (sym (drop_all i blocks le)) ∙ so_far

-- The points of a text that weren't tried.
use Rattle.std.proofs.Common.{◌≡◌, refl, sym, ap, ◌∙◌, ℕ, zero, suc, ◌-◌, true, Option, Some, None, List, nat_eq, slice_get, arith}
use Rattle.std.specs.Prelude.{if◌then◌else◌}
use Rattle.vcm_code.specs.Code.{CodeStatement}
use Rattle.vcm_untried.specs.Points.{touched, touched_or, point_at, point_before}
use Rattle.vcm_untried.proofs.Tables.{unlike}

-- what the statement in front of a number gives, with those in front of it
before_more : (statements : List CodeStatement) (line n : ℕ) → (n ≡ 0 → ⊥)
    → point_before statements line n ≡ point_at line (slice_get statements (n - 1)) (point_before statements line (n - 1))
before_more statements line zero h = absurd (h refl)
before_more statements line (suc n) h = let e : suc n - 1 ≡ n = omega arith in rw e refl

module _ (statements : List CodeStatement) (line n : ℕ) (some : n ≡ 0 → ⊥) (s : CodeStatement) (there : slice_get statements (n - 1) ≡ Some s) where
  before_is : point_before statements line n ≡ point_at line (Some s) (point_before statements line (n - 1))
  before_is = before_more statements line n some ∙ ap (λ o. point_at line o (point_before statements line (n - 1))) there

  -- it is of another line
  pub other_line : (s.line ≡ line → ⊥) → None ≡ point_before statements line n
  other_line differ =
      sym (before_is ∙ ap (λ b. if b then touched_or (touched s.op) (point_before statements line (n - 1)) else None) (unlike s.line line differ))

  -- it is of this line
  pub this_line : s.line ≡ line → (o : Option ℕ) → o ≡ touched s.op → touched_or o (point_before statements line (n - 1)) ≡ point_before statements line n
  this_line same o e =
      let is : nat_eq s.line line ≡ true = grind (arith, same) in
      ap (λ t. touched_or t (point_before statements line (n - 1))) e
      ∙ sym (before_is ∙ ap (λ b. if b then touched_or (touched s.op) (point_before statements line (n - 1)) else None) is)

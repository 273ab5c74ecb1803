-- Blocks that are listed.
use Rattle.std.proofs.Common.{◌≡◌, ◌⊎◌, ℕ, ◌+◌, ◌≤◌, List, length, get_or, arith, inl, inr, sym, ◌∙◌, ap}
use Rattle.std.proofs.lemmas.Bool.{cases_lt}
use Rattle.vcm_spec.specs.declared.workpiece.Block3.{Block3}
use Rattle.vcm_motion.proofs.Search.{HasSeenAll}
use Rattle.vcm_motion.specs.inner.Listed.{IsListed, IsCovered}

-- one more is listed
pub next_passed : (order : List ℕ) (n i : ℕ) → get_or order n 0 ≡ i → (j : ℕ) → IsListed order 0 (n + 1) j → IsListed order 0 n j ⊎ (j ≡ i)
next_passed order n i at j p = elim (cases_lt p.place n) [
  | inl l ↦ inl (record { place = p.place; after = p.after; before = l; is = p.is })
  | inr l ↦ let same : p.place ≡ n = (let b = p.before in omega arith) in inr (sym p.is ∙ ap (λ k. get_or order k 0) same ∙ at)
]

pub all_passed : (blocks : List Block3) (M : Block3 → ℕ → ℕ → Type 0) (order : List ℕ) (n : ℕ) → length order ≤ n → IsCovered blocks M order → HasSeenAll blocks M (IsListed order 0 n)
all_passed blocks M order n l covered j other at a b m =
    let listed = covered j other at a b m in
    let within = listed.before in
    record { place = listed.place; after = listed.after; before = omega arith; is = listed.is }

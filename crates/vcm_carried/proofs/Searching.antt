-- The first of the blocks that a search has seen, one after another.
use Rattle.std.proofs.Common.{◌≡◌, ℕ, ◌+◌, ◌*◌, ◌<◌, ◌≤◌, arith, subst, sym, ap, ◌∙◌, List, length, Option, Some, None, slice_get, inl, inr}
use Rattle.std.proofs.lemmas.Option.{slice_get_within}
use Rattle.vcm_spec.specs.declared.workpiece.Block3.{Block3}
use Rattle.vcm_spec.specs.Contact.{IsFirst, IsClear}
use Rattle.vcm_spec.proofs.Fractions.{not_after_trans, before_trans}
use Rattle.vcm_spec.proofs.FirstOf.{IsPositive}
use Rattle.vcm_motion.proofs.Search.{same_block, next_seen}
use Rattle.vcm_motion.proofs.InOrder.{read_at, stands_at}
use Rattle.vcm_carried.specs.declared.entered.Entered.{Entered}
use Rattle.vcm_carried.specs.Carried.{IsLeast}
use Rattle.vcm_carried.specs.inner.Shared.{IsSooner}

module _ (blocks : List Block3) (M : Block3 → ℕ → ℕ → Type 0) where
  -- the block at j, where there is one, is not met
  abbrev pub IsNotMet : ℕ → Type 0
  IsNotMet j = (other : Block3) → slice_get blocks j ≡ Some other → (c d : ℕ) → M other c d → ⊥

  -- it isn't met before e is entered, and only after that where it stands before e
  abbrev pub IsBoundAt : Entered → ℕ → Type 0
  IsBoundAt e j = (other : Block3) → slice_get blocks j ≡ Some other → (c d : ℕ) → M other c d →
      (e.at.num * d ≤ c * e.at.den) × (j < e.index → e.at.num * d < c * e.at.den)

  -- e is the first of the first n blocks
  pub record IsFirstOf (n : ℕ) (e : Entered) : Type 0 where
    pub block : Block3
    pub stands : slice_get blocks e.index ≡ Some block
    pub meets : M block e.at.num e.at.den
    pub before : e.index < n
    pub bound : (j : ℕ) → j < n → IsBoundAt e j

  -- what a search knows of the first n blocks
  abbrev pub IsSoFar : ℕ → Option Entered → Type 0
  IsSoFar n None = (j : ℕ) → j < n → IsNotMet j
  IsSoFar n (Some e) = IsFirstOf n e

module _ (blocks : List Block3) (M : Block3 → ℕ → ℕ → Type 0) (n : ℕ) (within : n < length blocks) where
  abbrev block : Block3
  block = read_at blocks n

  stands : slice_get blocks n ≡ Some block
  stands = stands_at blocks n within

  -- what is met at n is met of the block that is read there
  read_there : (other : Block3) → slice_get blocks n ≡ Some other → (c d : ℕ) → M other c d → M block c d
  read_there other at c d m = subst (λ (x : Block3). M x c d) (same_block blocks n other block at stands) m

  -- the next block is not met
  pub skip_next : ((a b : ℕ) → M block a b → ⊥) → (first : Option Entered) → IsSoFar blocks M n first → IsSoFar blocks M (n + 1) first
  skip_next never None h = λ j l. elim (next_seen n j l) [
    | inl old ↦ h j old
    | inr new ↦ subst (IsNotMet blocks M) (sym new) (λ other at c d m. never c d (read_there other at c d m))
  ]
  skip_next never (Some e) h = record {
    block = h.block;
    stands = h.stands;
    meets = h.meets;
    before = (let i = h.before in omega arith);
    bound = λ j l. elim (next_seen n j l) [
      | inl old ↦ h.bound j old
      | inr new ↦ subst (IsBoundAt blocks M e) (sym new) (λ other at c d m. absurd (never c d (read_there other at c d m)))
    ];
  }

  module _ (positive : IsPositive M) (next : Entered) (place : next.index ≡ n) (entry : IsLeast (M block) next.at.num next.at.den) where
    own_bound : IsBoundAt blocks M next n
    own_bound other at c d m = (entry.least c d (read_there other at c d m), λ l. absurd (omega arith))

    -- the next block is the first
    leads : ((j : ℕ) → j < n → IsBoundAt blocks M next j) → IsFirstOf blocks M (n + 1) next
    leads h = record {
      block = block;
      stands = ap (slice_get blocks) place ∙ stands;
      meets = entry.meets;
      before = omega arith;
      bound = λ j l. elim (next_seen n j l) [ inl old ↦ h j old | inr new ↦ subst (IsBoundAt blocks M next) (sym new) own_bound ];
    }

    -- it is entered later
    follows : (e : Entered) → IsFirstOf blocks M n e → e.at.num * next.at.den ≤ next.at.num * e.at.den → IsFirstOf blocks M (n + 1) e
    follows e h le = record {
      block = h.block;
      stands = h.stands;
      meets = h.meets;
      before = (let i = h.before in omega arith);
      bound = λ j l. elim (next_seen n j l) [
        | inl old ↦ h.bound j old
        | inr new ↦ subst (IsBoundAt blocks M e) (sym new) (λ other at c d m. (
          not_after_trans e.at.num e.at.den next.at.num next.at.den c d next.at.positive le (own_bound other at c d m).0,
          λ before. (let i = h.before in absurd (omega arith)),
        ))
      ];
    }

    earlier : (e : Entered) → IsFirstOf blocks M n e → next.at.num * e.at.den < e.at.num * next.at.den → (j : ℕ) → j < n → IsBoundAt blocks M next j
    earlier e h lt j l other at c d m =
        let under = before_trans next.at.num next.at.den e.at.num e.at.den c d (positive other c d m) lt (h.bound j l other at c d m).0 in
        (omega (arith, under), λ k. under)

    pub add_next : (first : Option Entered) → IsSoFar blocks M n first → (r : Entered) → IsSooner first next r → IsSoFar blocks M (n + 1) (Some r)
    add_next None h r e = subst (IsFirstOf blocks M (n + 1)) (sym e) (leads (λ j l other at c d m. absurd (h j l other at c d m)))
    add_next (Some e) h r (inl s) = subst (IsFirstOf blocks M (n + 1)) (sym s.0) (follows e h s.1)
    add_next (Some e) h r (inr s) = subst (IsFirstOf blocks M (n + 1)) (sym s.0) (leads (earlier e h s.1))

-- all blocks are seen
module _ (blocks : List Block3) (M : Block3 → ℕ → ℕ → Type 0) (n : ℕ) (all : length blocks ≤ n) where
  seen : (j : ℕ) (other : Block3) → slice_get blocks j ≡ Some other → j < n
  seen j other at = let l = slice_get_within blocks j other at in omega arith

  pub first_of_all : (e : Entered) → IsFirstOf blocks M n e → IsFirst blocks M e.index e.at.num e.at.den
  first_of_all e h = record {
    block = h.block;
    stands = h.stands;
    meets = h.meets;
    earliest = λ j other at c d m. (h.bound j (seen j other at) other at c d m).0;
    lowest = λ j other l at c d m. (h.bound j (seen j other at) other at c d m).1 l;
  }

  pub clear_of_all : IsSoFar blocks M n None → IsClear blocks M
  clear_of_all h = λ j other at c d m. h j (seen j other at) other at c d m

-- Fractions at which the tip enters a block, and ways of which as much was gone.
use Rattle.std.proofs.Common.{◌≡◌, ℕ, ◌<◌, ℤ, slice_get, Option, Some, None, true, sym, subst, arith}
use Rattle.std.specs.Prelude.{◌-◌, option_and_then, unwrap_or}
use Rattle.vcm_num.specs.declared.point.Point.{Point}
use Rattle.vcm_num.specs.Point.{coordinate}
use Rattle.vcm_spec.specs.declared.workpiece.Block3.{Block3}
use Rattle.vcm_spec.specs.Workpiece.{Workpiece, grown, is_block}
use Rattle.vcm_spec.specs.Contact.{Meets, TipMeets}
use Rattle.vcm_spec.specs.FirstContact.{Fraction, fraction, entry}
use Rattle.vcm_spec.proofs.FirstOf.{IsEntry}
use Rattle.vcm_spec.proofs.Entries.{entry_is}
use Rattle.vcm_spec.proofs.Tips.{block_in_order, tip_meets, meets_tip}
use Rattle.vcm_carried.specs.Carried.{IsLeast}
use Rattle.vcm_way.specs.Gone.{contact_fraction}
use Rattle.vcm_way.specs.Seen.{IsSame}

module _ (h : ℕ) (x y : ℕ → ℤ) (block : Block3) (valid : is_block block ≡ true) where
  -- the least fraction at which the tip meets the block is that at which it enters it
  pub same_entry : (a b : ℕ) → IsLeast (TipMeets h x y block) a b → IsSame (fraction a b) (unwrap_or (entry x y (grown h block)) (fraction 0 1))
  same_entry a b m = by (entry x y (grown h block)) (entry_is x y (grown h block))
    where
      by : (o : Option Fraction) → IsEntry (Meets x y) (grown h block) o → IsSame (fraction a b) (unwrap_or o (fraction 0 1))
      by None e = absurd (e a b (tip_meets h x y block a b m.meets))
      by (Some g) e = record {
        first = m.meets.fraction.positive;
        second = e.meets.fraction.positive;
        under = m.least g.num g.den (meets_tip h x y block (block_in_order block valid) g.num g.den e.meets);
        over = e.least a b (tip_meets h x y block a b m.meets);
      }

  -- where it meets it nowhere, the start is told
  pub same_start : (a b : ℕ) → a ≡ 0 → 0 < b → ((c d : ℕ) → TipMeets h x y block c d → ⊥) → IsSame (fraction a b) (unwrap_or (entry x y (grown h block)) (fraction 0 1))
  same_start a b none positive never = by (entry x y (grown h block)) (entry_is x y (grown h block))
    where
      by : (o : Option Fraction) → IsEntry (Meets x y) (grown h block) o → IsSame (fraction a b) (unwrap_or o (fraction 0 1))
      by None e = record { first = positive; second = omega arith; under = rw none (omega arith); over = omega arith }
      by (Some g) e = absurd (never g.num g.den (meets_tip h x y block (block_in_order block valid) g.num g.den e.meets))

-- the start is the start
pub starts_same : (a b : ℕ) → a ≡ 0 → 0 < b → IsSame (fraction a b) (fraction 0 1)
starts_same a b none positive = record { first = positive; second = omega arith; under = rw none (omega arith); over = omega arith }

module _ (part : Workpiece) (n : ℕ) (a b : Point) (f : Fraction) where
  abbrev by_block : Option Block3 → Fraction
  by_block o = unwrap_or (option_and_then (λ block. entry (coordinate a) (coordinate b) (grown part.bounds.tip block)) o) (fraction 0 1)

  -- with the block of a number, and where there is none
  pub with_block : (block : Block3) → slice_get part.blocks (n - 1) ≡ Some block → IsSame f (unwrap_or (entry (coordinate a) (coordinate b) (grown part.bounds.tip block)) (fraction 0 1))
      → IsSame f (contact_fraction part n a b)
  with_block block at h = subst (λ o. IsSame f (by_block o)) (sym at) h

  pub without_block : slice_get part.blocks (n - 1) ≡ None → IsSame f (fraction 0 1) → IsSame f (contact_fraction part n a b)
  without_block at h = subst (λ o. IsSame f (by_block o)) (sym at) h

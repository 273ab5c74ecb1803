-- A way that was gone up to a contact ends where the mark of the contact stands.
use Rattle.std.proofs.Common.{◌≡◌, ℕ, ◌<◌, ℤ, pos, ◌+ℤ◌, ◌-ℤ◌, Bool, true, false, slice_get, Option, Some, None, refl, arith}
use Rattle.std.specs.Prelude.{◌-◌, int_le, unsigned_abs, if◌then◌else◌, option_and_then, unwrap_or}
use Rattle.std.proofs.lemmas.Int.{ints}
use Rattle.vcm_num.specs.declared.point.Point.{Point}
use Rattle.vcm_num.specs.Point.{coordinate}
use Rattle.vcm_spec.specs.declared.workpiece.Block3.{Block3}
use Rattle.vcm_spec.specs.Workpiece.{Workpiece, grown}
use Rattle.vcm_spec.specs.FirstContact.{Fraction, fraction, entry}
use Rattle.vcm_spec.proofs.Entries.{below_three}
use Rattle.vcm_motion.specs.Places.{share, part_of_way, point_on_way}
use Rattle.vcm_way.specs.Gone.{contact_fraction}
use Rattle.vcm_way.specs.Laws.{ContactsEndWays}
use Rattle.vcm_way.specs.Marks.{contact_point}

-- none of a way leads to its start
none_of : (p q : ℤ) → p ≡ part_of_way (fraction 0 1) p q
none_of p q = by (int_le p q)
  where
    by : (t : Bool) → p ≡ (if t then p +ℤ pos (share (fraction 0 1) (unsigned_abs (q -ℤ p))) else p -ℤ pos (share (fraction 0 1) (unsigned_abs (q -ℤ p))))
    by true = omega (arith, ints)
    by false = omega (arith, ints)

on_way : (f : Fraction) (x y : ℕ → ℤ) (k : ℕ) → k < 3 → coordinate (point_on_way f x y) k ≡ part_of_way f (x k) (y k)
on_way f x y = below_three (λ k. coordinate (point_on_way f x y) k ≡ part_of_way f (x k) (y k)) refl refl refl

module _ (part : Workpiece) (a b : Point) where
  entered : (o : Option Fraction) (k : ℕ) → k < 3
      → coordinate (unwrap_or (elim o [ None ↦ None | Some f ↦ Some (point_on_way f (coordinate a) (coordinate b)) ]) a) k ≡ part_of_way (unwrap_or o (fraction 0 1)) (coordinate a k) (coordinate b k)
  entered None k l = none_of (coordinate a k) (coordinate b k)
  entered (Some f) k l = on_way f (coordinate a) (coordinate b) k l

  at_contact : (n k : ℕ) → k < 3 → coordinate (contact_point part n a b) k ≡ part_of_way (contact_fraction part n a b) (coordinate a k) (coordinate b k)
  at_contact n k l = by (slice_get part.blocks (n - 1))
    where
      by : (o : Option Block3) → coordinate (unwrap_or
          (option_and_then (λ block. elim (entry (coordinate a) (coordinate b) (grown part.bounds.tip block))
          [ None ↦ None | Some f ↦ Some (point_on_way f (coordinate a) (coordinate b)) ]) o) a) k
          ≡ part_of_way (unwrap_or (option_and_then (λ block. entry (coordinate a) (coordinate b) (grown part.bounds.tip block)) o) (fraction 0 1)) (coordinate a k) (coordinate b k)
      by None = none_of (coordinate a k) (coordinate b k)
      by (Some block) = entered (entry (coordinate a) (coordinate b) (grown part.bounds.tip block)) k l

pub contacts_end : ContactsEndWays
contacts_end = at_contact

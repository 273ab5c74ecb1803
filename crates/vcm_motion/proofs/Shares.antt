-- Equal fractions cut off alike.
use Rattle.std.proofs.Common.{◌≡◌, ℕ, ◌*◌, ◌/◌, ◌<◌, ◌≤◌, ℤ, pos, ◌+ℤ◌, ◌-ℤ◌, true, Option, Some, None, refl, sym, ap, ◌∙◌, arith}
use Rattle.std.specs.Prelude.{int_le, unsigned_abs, if◌then◌else◌}
use Rattle.std.proofs.Math.Nat.{mul-le-mul_left, le_of_mul-le-mul_left, div-mul-le_self}
use Rattle.std.proofs.lemmas.Nat.{le-div}
use Rattle.vcm_num.specs.declared.point.Point.{Point}
use Rattle.vcm_num.specs.Point.{point}
use Rattle.vcm_spec.specs.declared.workpiece.Block3.{Block3}
use Rattle.vcm_spec.specs.Workpiece.{grown, is_block}
use Rattle.vcm_spec.specs.Contact.{Meets, TipMeets}
use Rattle.vcm_spec.specs.FirstContact.{Fraction, fraction, entry}
use Rattle.vcm_spec.proofs.FirstOf.{IsEntry}
use Rattle.vcm_spec.proofs.Entries.{entry_is}
use Rattle.vcm_spec.proofs.Tips.{block_in_order, tip_meets, meets_tip}
use Rattle.vcm_motion.specs.inner.Sooner.{IsLeastOf}
use Rattle.vcm_motion.specs.Places.{share, part_of_way, point_on_way, entry_point}

share_le : (n a b c d : ℕ) → 0 < b → 0 < d → a * d ≤ c * b → n * a / b ≤ n * c / d
share_le n a b c d hb hd le =
    le-div (n * a / b) (n * c) d hd
    (le_of_mul-le-mul_left {k = b} (omega (arith, mul-le-mul_left d (div-mul-le_self (n * a) b), mul-le-mul_left n le)) hb)

-- two fractions, neither of which is the greater one
pub record AreEqual (f g : Fraction) : Type 0 where
  pub first : 0 < f.den
  pub second : 0 < g.den
  pub under : f.num * g.den ≤ g.num * f.den
  pub over : g.num * f.den ≤ f.num * g.den

same_share : (f g : Fraction) → AreEqual f g → (n : ℕ) → share f n ≡ share g n
same_share f g e n =
    let one = share_le n f.num f.den g.num g.den e.first e.second e.under in
    let two = share_le n g.num g.den f.num f.den e.second e.first e.over in
    omega arith

same_part : (f g : Fraction) → AreEqual f g → (p q : ℤ) → part_of_way f p q ≡ part_of_way g p q
same_part f g e p q = ap (λ (n : ℕ). if int_le p q then p +ℤ pos n else p -ℤ pos n) (same_share f g e (unsigned_abs (q -ℤ p)))

same_point : (f g : Fraction) → AreEqual f g → (x y : ℕ → ℤ) → point_on_way f x y ≡ point_on_way g x y
same_point f g e x y =
    ap (λ (a : ℤ). point a (part_of_way f (x 1) (y 1)) (part_of_way f (x 2) (y 2))) (same_part f g e (x 0) (y 0))
    ∙ ap (λ (a : ℤ). point (part_of_way g (x 0) (y 0)) a (part_of_way f (x 2) (y 2))) (same_part f g e (x 1) (y 1))
    ∙ ap (λ (a : ℤ). point (part_of_way g (x 0) (y 0)) (part_of_way g (x 1) (y 1)) a) (same_part f g e (x 2) (y 2))

abbrev placed : (ℕ → ℤ) → (ℕ → ℤ) → Option Fraction → Option Point
placed x y None = None
placed x y (Some f) = Some (point_on_way f x y)

module _ (h : ℕ) (x y : ℕ → ℤ) (block : Block3) (valid : is_block block ≡ true) where
  is_placed : entry_point h block x y ≡ placed x y (entry x y (grown h block))
  is_placed = by (entry x y (grown h block))
    where
      by : (o : Option Fraction) → elim o [ None ↦ None | Some f ↦ Some (point_on_way f x y) ] ≡ placed x y o
      by None = refl
      by (Some f) = refl

  met_by : (f : Fraction) → IsLeastOf (TipMeets h x y block) f.num f.den → (o : Option Fraction) → IsEntry (Meets x y) (grown h block) o
      → Some (point_on_way f x y) ≡ placed x y o
  met_by f m None e = absurd (e f.num f.den (tip_meets h x y block f.num f.den m.meets))
  met_by f m (Some g) e = ap Some (same_point f g (record {
    first = m.meets.fraction.positive;
    second = e.meets.fraction.positive;
    under = m.least g.num g.den (meets_tip h x y block (block_in_order block valid) g.num g.den e.meets);
    over = e.least f.num f.den (tip_meets h x y block f.num f.den m.meets);
  }) x y)

  missed_by : ((a b : ℕ) → TipMeets h x y block a b → ⊥) → (o : Option Fraction) → IsEntry (Meets x y) (grown h block) o → None ≡ placed x y o
  missed_by never None e = refl
  missed_by never (Some g) e = absurd (never g.num g.den (meets_tip h x y block (block_in_order block valid) g.num g.den e.meets))

  -- the point at the least fraction at which the tip meets the block
  pub entered_at : (a b : ℕ) → IsLeastOf (TipMeets h x y block) a b → Some (point_on_way (fraction a b) x y) ≡ entry_point h block x y
  entered_at a b m = met_by (fraction a b) m (entry x y (grown h block)) (entry_is x y (grown h block)) ∙ sym is_placed

  -- none where it meets it at no fraction
  pub never_entered : ((a b : ℕ) → TipMeets h x y block a b → ⊥) → None ≡ entry_point h block x y
  never_entered never = missed_by never (entry x y (grown h block)) (entry_is x y (grown h block)) ∙ sym is_placed

  -- the point of three coordinates at that fraction
  pub entered_there : (a b : ℕ) → IsLeastOf (TipMeets h x y block) a b → (p : Point) (u v w : ℤ) → p ≡ point u v w → u ≡ part_of_way (fraction a b) (x 0) (y 0)
      → v ≡ part_of_way (fraction a b) (x 1) (y 1) → w ≡ part_of_way (fraction a b) (x 2) (y 2) → Some p ≡ entry_point h block x y
  entered_there a b m p u v w e eu ev ew =
      ap Some (e ∙ ap (λ (t : ℤ). point t v w) eu ∙ ap (λ (t : ℤ). point (part_of_way (fraction a b) (x 0) (y 0)) t w) ev
      ∙ ap (λ (t : ℤ). point (part_of_way (fraction a b) (x 0) (y 0)) (part_of_way (fraction a b) (x 1) (y 1)) t) ew)
      ∙ entered_at a b m

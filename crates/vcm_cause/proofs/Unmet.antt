-- Whether the tip meets a block on a way.
use Rattle.std.proofs.Common.{◌≡◌, ◌∙◌, ℕ, ◌<◌, ◌≤◌, ℤ, Bool, true, false, Option, Some, None, refl, sym, ap, arith}
use Rattle.std.specs.Prelude.{is_none, nat_lt, ◌&&◌, if◌then◌else◌}
use Rattle.vcm_cause.specs.declared.approach.ApproachWay.{ApproachWay}
use Rattle.vcm_cause.specs.declared.approach.TheConstants.{STEPS}
use Rattle.vcm_cause.specs.Approach.{is_free_with, climbed, free_approach}
use Rattle.vcm_spec.specs.declared.workpiece.Block3.{Block3}
use Rattle.vcm_spec.specs.Workpiece.{grown, is_block}
use Rattle.vcm_spec.specs.Contact.{Meets, TipMeets}
use Rattle.vcm_spec.specs.FirstContact.{Fraction, entry}
use Rattle.vcm_spec.proofs.FirstOf.{IsEntry}
use Rattle.vcm_spec.proofs.Entries.{entry_is}
use Rattle.vcm_spec.proofs.Tips.{block_in_order, tip_meets, meets_tip}
use Rattle.vcm_carried.specs.Carried.{IsLeast}

module _ (h : ℕ) (x y : ℕ → ℤ) (block : Block3) (valid : is_block block ≡ true) where
  -- it meets it somewhere
  pub is_met : (a b : ℕ) → IsLeast (TipMeets h x y block) a b → is_none (entry x y (grown h block)) ≡ false
  is_met a b m = by (entry x y (grown h block)) (entry_is x y (grown h block))
    where
      by : (o : Option Fraction) → IsEntry (Meets x y) (grown h block) o → is_none o ≡ false
      by None e = absurd (e a b (tip_meets h x y block a b m.meets))
      by (Some g) e = refl

  -- it meets it nowhere
  pub is_unmet : ((a b : ℕ) → TipMeets h x y block a b → ⊥) → is_none (entry x y (grown h block)) ≡ true
  is_unmet never = by (entry x y (grown h block)) (entry_is x y (grown h block))
    where
      by : (o : Option Fraction) → IsEntry (Meets x y) (grown h block) o → is_none o ≡ true
      by None e = refl
      by (Some g) e = absurd (never g.num g.den (meets_tip h x y block (block_in_order block valid) g.num g.den e.meets))

-- ---- the distance of an approach

too_short : (a b : Bool) (n : ℕ) → a ≡ false → None ≡ (if a && b then Some n else None)
too_short true b n e = absurd (let no : true ≡ false = e in cc)
too_short false b n e = refl

never_free : (a b : Bool) (n : ℕ) → b ≡ false → None ≡ (if a && b then Some n else None)
never_free a true n e = absurd (let no : true ≡ false = e in cc)
never_free true false n e = refl
never_free false false n e = refl

it_is : (a b : Bool) (n m : ℕ) → a ≡ true → b ≡ true → n ≡ m → Some n ≡ (if a && b then Some m else None)
it_is false b n m e f g = absurd (let no : false ≡ true = e in cc)
it_is true false n m e f g = absurd (let no : false ≡ true = f in cc)
it_is true true n m e f g = ap Some g

below : (d : ℕ) → 1 < d → nat_lt 1 d ≡ true
below d l = grind (arith, l)

module _ (tip : ℕ) (block : Block3) (w : ApproachWay) where
  pub none_short : w.distance ≤ 1 → None ≡ free_approach tip block w
  none_short l = too_short (nat_lt 1 w.distance) (is_free_with tip block w 1) (climbed tip block w 1 STEPS) (grind (arith, l))

  pub none_free : (b : Bool) → b ≡ is_free_with tip block w 1 → b ≡ false → None ≡ free_approach tip block w
  none_free b e f = never_free (nat_lt 1 w.distance) (is_free_with tip block w 1) (climbed tip block w 1 STEPS) (sym e ∙ f)

  pub some_free : 1 < w.distance → (b : Bool) → b ≡ is_free_with tip block w 1 → b ≡ true → (n : ℕ) → n ≡ climbed tip block w 1 STEPS → Some n ≡ free_approach tip block w
  some_free l b e f n g = it_is (nat_lt 1 w.distance) (is_free_with tip block w 1) n (climbed tip block w 1 STEPS) (below w.distance l) (sym e ∙ f) g

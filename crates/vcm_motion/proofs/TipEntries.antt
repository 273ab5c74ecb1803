-- Where the tip meets a block, told by its centre and the grown block.
use Rattle.std.proofs.Common.{◌≡◌, ℕ, ℤ, Option, Some, None, true}
use Rattle.std.specs.Prelude.{IfSome, IfNone}
use Rattle.vcm_spec.specs.declared.workpiece.Block3.{Block3}
use Rattle.vcm_spec.specs.Workpiece.{grown, is_block}
use Rattle.vcm_spec.specs.Contact.{Meets, TipMeets}
use Rattle.vcm_spec.proofs.Tips.{block_in_order, tip_meets, meets_tip}
use Rattle.vcm_motion.specs.declared.fraction.Fraction.{Fraction}
use Rattle.vcm_motion.specs.inner.Sooner.{IsLeastOf}

module _ (h : ℕ) (x y : ℕ → ℤ) (block : Block3) (valid : is_block block ≡ true) where
  pub tip_met : (o : Option Fraction) → IfSome o (λ f. IsLeastOf (Meets x y (grown h block)) f.num f.den) → IfSome o (λ f. IsLeastOf (TipMeets h x y block) f.num f.den)
  tip_met None e = e
  tip_met (Some f) e = record {
    meets = meets_tip h x y block (block_in_order block valid) f.num f.den e.meets;
    least = λ c d m. e.least c d (tip_meets h x y block c d m);
  }

  pub tip_missed : (o : Option Fraction) → IfNone o ((a b : ℕ) → Meets x y (grown h block) a b → ⊥) → IfNone o ((a b : ℕ) → TipMeets h x y block a b → ⊥)
  tip_missed None e = λ a b m. e a b (tip_meets h x y block a b m)
  tip_missed (Some f) e = e

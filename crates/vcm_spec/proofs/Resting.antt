-- The probe at rest is within the limits, and its tip meets no block.
use Rattle.std.proofs.Common.{◌≡◌, ◌∙◌, ℕ, suc, ℤ, ◌≤ℤ◌, Bool, true, false, ◌&&◌, List, [], ◌∷◌, Option, Some, None, slice_get, refl, sym, ap, arith}
use Rattle.std.specs.Prelude.{IsTrue, not, int_le, ◌||◌}
use Rattle.std.specs.List.{list_any}
use Rattle.std.proofs.lemmas.Bool.{and_parts}
use Rattle.std.proofs.lemmas.Int.{ints}
use Rattle.vcm_num.specs.Point.{coordinate, is_below, on_each}
use Rattle.vcm_spec.specs.declared.workpiece.Block3.{Block3}
use Rattle.vcm_spec.specs.declared.workpiece.Hit.{Hit}
use Rattle.vcm_spec.specs.declared.stop.Stop.{Stop}
use Rattle.vcm_spec.specs.declared.stop.Stop.TheVariants.{Travel}
use Rattle.vcm_spec.specs.declared.words.MovePhase.{MovePhase}
use Rattle.vcm_spec.specs.Workpiece.{Workpiece, IsValid, TipTouches, grown, is_in, is_met, is_some_met, is_blocked, is_within}
use Rattle.vcm_spec.specs.Contact.{IsBetween, Meets, TipMeets, TipMeetsLater, IsClear, IsContact}
use Rattle.vcm_spec.specs.FirstContact.{contact}
use Rattle.vcm_spec.specs.FirstTouch.{free_of, free_move}
use Rattle.vcm_spec.specs.Outcome.{Gives, Stops, ◌>>=◌, demand}
use Rattle.vcm_spec.proofs.Entries.{le_true, below_three}
use Rattle.vcm_spec.proofs.Contacts.{contact_is}
use Rattle.vcm_spec.proofs.Tips.{in_order, meets_tip, touched_in, met_touches}
use Rattle.vcm_spec.proofs.Touches.{any_at}
use Rattle.vcm_spec.specs.Laws.{ClearOfBlocks}

record Standing (test : Block3 → Bool) (bs : List Block3) : Type 0 where
  index : ℕ
  block : Block3
  stands : slice_get bs index ≡ Some block
  passes : test block ≡ true

-- the block that passes a test which some block passes
standing : (test : Block3 → Bool) (bs : List Block3) → list_any test bs ≡ true → Standing test bs
standing test [] e = absurd (cc e)
standing test (b ∷ bs) e = by (test b) refl (λ f. standing test bs (ap (λ c. c || list_any test bs) (sym f) ∙ e))
  where
    next : Standing test bs → Standing test (b ∷ bs)
    next s = record { index = suc s.index; block = s.block; stands = s.stands; passes = s.passes }

    by : (c : Bool) → test b ≡ c → (test b ≡ false → Standing test bs) → Standing test (b ∷ bs)
    by true f later = record { index = 0; block = b; stands = refl; passes = f }
    by false f later = next (later f)

-- at an end at which no block is met, the tip meets none
clear_end : (h : ℕ) (blocks : List Block3) (M : Block3 → ℕ → ℕ → Type 0) (y : ℕ → ℤ) → ((j : ℕ) (b : Block3) → slice_get blocks j ≡ Some b → is_met h b y ≡ true → M b 1 1)
    → IsClear blocks M → IsTrue (not (is_some_met h blocks y))
clear_end h blocks M y met clear = by (is_some_met h blocks y) refl
  where
    by : (c : Bool) → is_some_met h blocks y ≡ c → IsTrue (not (is_some_met h blocks y))
    by true e = let s = standing (λ b. is_met h b y) blocks e in absurd (clear s.index s.block s.stands 1 1 (met s.index s.block s.stands s.passes))
    by false e = rw e refl

between_end : (low high p q : ℤ) → low ≤ℤ q → q ≤ℤ high → IsBetween low high p q 1 1
between_end low high p q l h = record { above = omega (arith, ints); below = omega (arith, ints) }

three : (test : ℕ → Bool) → IsTrue (on_each test) → (test 0 ≡ true) × (test 1 ≡ true) × (test 2 ≡ true)
three test h =
    let a = and_parts (test 0 && test 1) (test 2) h in
    let b = and_parts (test 0) (test 1) a.0 in
    (b.0, b.1, a.1)

-- a block that the end lies in is met there
met_end : (x y : ℕ → ℤ) (b : Block3) → is_in b y ≡ true → Meets x y b 1 1
met_end x y b e =
    let parts = and_parts (is_below (coordinate b.low) y) (is_below y (coordinate b.high)) e in
    let l = three (λ k. int_le (coordinate b.low k) (y k)) parts.0 in
    let h = three (λ k. int_le (y k) (coordinate b.high k)) parts.1 in
    record {
      fraction = record { positive = omega arith; within = omega arith };
      on_axis = below_three (λ k. IsBetween (coordinate b.low k) (coordinate b.high k) (x k) (y k) 1 1)
          (between_end _ _ _ _ (le_true _ _ l.0) (le_true _ _ h.0)) (between_end _ _ _ _ (le_true _ _ l.1) (le_true _ _ h.1)) (between_end _ _ _ _ (le_true _ _ l.2) (le_true _ _ h.2));
    }

-- a tip that ends where it meets a block meets it there
tip_met_end : (part : Workpiece) → IsValid part → (x y : ℕ → ℤ) (j : ℕ) (b : Block3) → slice_get part.blocks j ≡ Some b → is_met part.bounds.tip b y ≡ true
    → TipMeets part.bounds.tip x y b 1 1
tip_met_end part valid x y j b stands e = meets_tip part.bounds.tip x y b (in_order part valid j b stands) 1 1 (met_end x y (grown part.bounds.tip b) e)

pub record Free (part : Workpiece) (y : ℕ → ℤ) : Type 0 where
  pub within : IsTrue (is_within part.bounds y)
  pub clear : IsTrue (not (is_blocked part y))

-- so where a move may go, the probe may rest
pub free_rests : (phase : MovePhase) (part : Workpiece) → IsValid part → (x y : ℕ → ℤ) (u : Unit {0}) → free_move phase part x y ≡ Gives u → Free part y
free_rests phase part valid x y u = by (is_within part.bounds y) refl (contact part x y) (contact_is part valid x y)
  where
    by : (b : Bool) → is_within part.bounds y ≡ b → (o : Option Hit) → IsContact part x y o → demand b (Travel phase) >>= (λ _. free_of phase o) ≡ Gives u → Free part y
    by true w None clear e = record { within = w; clear = clear_end part.bounds.tip part.blocks (TipMeets part.bounds.tip x y) y (tip_met_end part valid x y) clear }
    by true w (Some hit) clear e = absurd (stops_not _ e)
      where
        stops_not : (s : Stop) → Stops s ≡ Gives u → ⊥
        stops_not s f = cc
    by false w o clear e = absurd (stops_not _ e)
      where
        stops_not : (s : Stop) → Stops s ≡ Gives u → ⊥
        stops_not s f = cc

-- and so it may at the retract point
pub back_rests : (part : Workpiece) → IsValid part → (x y : ℕ → ℤ) → IsTrue (is_within part.bounds y) → IsClear part.blocks (TipMeetsLater part.bounds.tip x y) → Free part y
back_rests part valid x y within clear = record {
  within = within;
  clear = clear_end part.bounds.tip part.blocks (TipMeetsLater part.bounds.tip x y) y
      (λ j b stands e. record { meets = tip_met_end part valid x y j b stands e; later = omega arith }) clear;
}

-- a place is clear where no place of the tip lies in a block
pub clear_of_blocks : ClearOfBlocks
clear_of_blocks part valid x = (not_touched, clear)
  where
    not_touched : IsTrue (not (is_blocked part x)) → (j : ℕ) (block : Block3) → slice_get part.blocks j ≡ Some block → ¬ TipTouches part.bounds.tip block x
    not_touched none j block stands t =
        let some : is_blocked part x ≡ true = any_at (λ b. is_met part.bounds.tip b x) part.blocks j block stands (touched_in part.bounds.tip block x t) in
        let both : false ≡ true = sym (ap not some) ∙ none in cc

    clear : ((j : ℕ) (block : Block3) → slice_get part.blocks j ≡ Some block → ¬ TipTouches part.bounds.tip block x) → IsTrue (not (is_blocked part x))
    clear never = by (is_blocked part x) refl
      where
        by : (c : Bool) → is_blocked part x ≡ c → IsTrue (not (is_blocked part x))
        by true e =
            let s = standing (λ b. is_met part.bounds.tip b x) part.blocks e in
            absurd (never s.index s.block s.stands (met_touches part.bounds.tip s.block x (in_order part valid s.index s.block s.stands) s.passes))
        by false e = rw e refl

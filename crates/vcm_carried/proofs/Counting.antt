-- Blocks that count, and what is told of the first.
use Rattle.std.proofs.Common.{◌≡◌, ℕ, ℤ, ◌+◌, ◌<◌, ◌≤◌, ◌-ℤ◌, ◌≤ℤ◌, Bool, true, false, ◌&&◌, List, length, Option, Some, None, sym, ◌∙◌, arith}
use Rattle.std.specs.Prelude.{IfSome, IfNone}
use Rattle.std.proofs.lemmas.Bool.{and_from}
use Rattle.std.proofs.lemmas.Int.{ints}
use Rattle.vcm_num.specs.declared.point.Point.{Point}
use Rattle.vcm_num.specs.Point.{coordinate, is_below}
use Rattle.vcm_spec.specs.declared.workpiece.Block3.{Block3}
use Rattle.vcm_spec.specs.Contact.{IsPermille, TipMeets}
use Rattle.vcm_spec.specs.FirstContact.{Fraction as Part, fraction}
use Rattle.vcm_spec.proofs.Tips.{IsInOrder}
use Rattle.vcm_motion.specs.Places.{point_on_way}
use Rattle.vcm_motion.proofs.BoxLemmas.{span_met}
use Rattle.vcm_motion.proofs.Inside.{each_below}
use Rattle.vcm_carried.specs.declared.contact.Contact.{Contact}
use Rattle.vcm_carried.specs.declared.entered.Entered.{Entered}
use Rattle.vcm_carried.specs.declared.fraction.Fraction.{Fraction}
use Rattle.vcm_carried.specs.Carried.{IsLeast, BoxMeetsBy, Counts, IsContactOn}
use Rattle.vcm_carried.specs.Laws.{cube}
use Rattle.vcm_carried.specs.inner.Shared.{IsSwept}
use Rattle.vcm_carried.proofs.Boxes.{carried_between, cubes_are}
use Rattle.vcm_carried.proofs.Contacts.{entered_by, never_entered}
use Rattle.vcm_carried.proofs.Searching.{IsFirstOf, first_of_all}

module _ (gone : Part) (box : Block3) (x y : ℕ → ℤ) (block : Block3) where
  -- a block that counts is met on what was gone
  pub counts_by : (with_start : Bool) (a b : ℕ) → Counts with_start gone box x y block a b → BoxMeetsBy gone box x y block a b
  counts_by true a b m = m
  counts_by false a b m = m.meets

  -- behind the start each that is met counts
  pub counted_later : IsInOrder box → IsInOrder block → (with_start : Bool) (a b : ℕ) → 0 < a → IsLeast (BoxMeetsBy gone box x y block) a b → IsLeast (Counts with_start gone box x y block) a b
  counted_later sides order true a b later h = h
  counted_later sides order false a b later h = record { meets = entered_by box x y block sides order gone a b later h.meets h.least; least = λ c d m. h.least c d m.meets }

  -- at the start it does not, unless the start does
  pub counted_never : IsInOrder box → IsInOrder block → (with_start : Bool) (a b : ℕ) → with_start ≡ false → a ≡ 0 → IsLeast (BoxMeetsBy gone box x y block) a b
      → (c d : ℕ) → Counts with_start gone box x y block c d → ⊥
  counted_never sides order true a b none e h c d m = absurd (let same : true ≡ false = none in cc)
  counted_never sides order false a b none e h c d m = never_entered box x y block sides order gone a b e h.meets c d m

-- ---- the area

-- a block that counts is touched by the area of the box
pub touched : (gone : Part) (box block area : Block3) (p q : Point) (a b : ℕ) → IsSwept box p q area → BoxMeetsBy gone box (coordinate p) (coordinate q) block a b →
    (is_below (coordinate block.low) (coordinate area.high) && is_below (coordinate area.low) (coordinate block.high)) ≡ true
touched gone box block area p q a b is m =
    let on : (k : ℕ) → k < 3
    → ((coordinate block.low k -ℤ coordinate box.high k) ≤ℤ (coordinate area.high k -ℤ coordinate box.high k))
    × ((coordinate area.low k -ℤ coordinate box.low k) ≤ℤ (coordinate block.high k -ℤ coordinate box.low k)) =
    λ k l. span_met _ _ _ _ _ _ a b (is k l) m.meets.fraction (carried_between _ _ _ _ _ _ a b (m.meets.shared k) (m.meets.on_axis k l)) in
    and_from _ _
    (each_below (coordinate block.low) (coordinate area.high) (λ k l. (let e = (on k l).0 in omega (arith, ints))))
    (each_below (coordinate area.low) (coordinate block.high) (λ k l. (let e = (on k l).1 in omega (arith, ints))))

-- one that it does not touch does not count
pub untouched : (gone : Part) (box block area : Block3) (p q : Point) (touching : Bool) → IsSwept box p q area
    → touching ≡ (is_below (coordinate block.low) (coordinate area.high) && is_below (coordinate area.low) (coordinate block.high)) → touching ≡ false
    → (with_start : Bool) (a b : ℕ) → Counts with_start gone box (coordinate p) (coordinate q) block a b → ⊥
untouched gone box block area p q touching is e none with_start a b m =
    let by = counts_by gone box (coordinate p) (coordinate q) block with_start a b m in
    let both : true ≡ false = sym (touched gone box block area p q a b is by) ∙ sym e ∙ none in cc

-- ---- what is told

module _ (blocks : List Block3) (gone : Part) (box : Block3) (x y : ℕ → ℤ) (with_start : Bool) (n : ℕ) (e : Entered)
    (h : IsFirstOf blocks (Counts with_start gone box x y) n e) where
  -- it is entered within the way
  pub counts_within : e.at.num ≤ e.at.den
  counts_within = let m = counts_by gone box x y h.block with_start e.at.num e.at.den h.meets in m.meets.fraction.within

  pub told_of : length blocks ≤ n → (c : Contact) → c.hit.block ≡ e.index + 1 → IsPermille e.at.num e.at.den c.hit.permille → c.at ≡ point_on_way (fraction e.at.num e.at.den) x y
      → IsContactOn blocks (Counts with_start gone box x y) x y c
  told_of all c number permille at = record {
    is_hit = record {
      index = e.index;
      a = e.at.num;
      b = e.at.den;
      first = first_of_all blocks (Counts with_start gone box x y) n all e h;
      number = number;
      permille = permille;
    };
    stands = at;
  }

-- ---- the tip

module _ (h : ℕ) (x y : ℕ → ℤ) (block : Block3) (n d : ℕ) (num : n ≡ 1) (den : d ≡ 1) where
  by_tip : (a b : ℕ) → TipMeets h x y block a b → BoxMeetsBy (fraction n d) (cube h) x y block a b
  by_tip a b m = record { meets = (cubes_are h block x y a b).1 m; was_gone = (let w = m.fraction.within in rw (num, den) (omega (arith, w))) }

  pub tip_met : (o : Option Fraction) → IfSome o (λ f. IsLeast (BoxMeetsBy (fraction n d) (cube h) x y block) f.num f.den) → IfSome o (λ f. IsLeast (TipMeets h x y block) f.num f.den)
  tip_met None e = e
  tip_met (Some f) e = record {
    meets = (cubes_are h block x y f.num f.den).0 e.meets.meets;
    least = λ c d m. e.least c d (by_tip c d m);
  }

  pub tip_missed : (o : Option Fraction) → IfNone o ((a b : ℕ) → BoxMeetsBy (fraction n d) (cube h) x y block a b → ⊥) → IfNone o ((a b : ℕ) → TipMeets h x y block a b → ⊥)
  tip_missed None e = λ a b m. e a b (by_tip a b m)
  tip_missed (Some f) e = e

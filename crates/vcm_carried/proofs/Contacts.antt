-- The computed contact is what the relation says, and nothing else is.
use Rattle.std.proofs.Common.{◌≡◌, ℕ, zero, suc, ◌*◌, ◌/◌, ◌<◌, ◌≤◌, ℤ, pos, ◌+ℤ◌, ◌-ℤ◌, Bool, true, false, List, Option, Some, None, refl, sym, ap, ◌∙◌, subst, arith}
use Rattle.std.specs.Prelude.{nat_le, int_le, unsigned_abs, if◌then◌else◌}
use Rattle.std.proofs.Math.Nat.{mul-le-mul_left, le_of_mul-le-mul_left, div-mul-le_self}
use Rattle.std.proofs.lemmas.Nat.{le-div}
use Rattle.std.proofs.lemmas.Int.{ints}
use Rattle.vcm_num.specs.declared.point.Point.{Point}
use Rattle.vcm_num.specs.Point.{point, coordinate}
use Rattle.vcm_spec.specs.declared.workpiece.Block3.{Block3}
use Rattle.vcm_spec.specs.declared.workpiece.Hit.{Hit}
use Rattle.vcm_spec.specs.Contact.{IsBetween, Meets}
use Rattle.vcm_spec.specs.FirstContact.{Fraction, fraction, Entered, is_not_after, entry, first_entered}
use Rattle.vcm_spec.proofs.Fractions.{not_after_trans}
use Rattle.vcm_spec.proofs.FirstOf.{IsPositive, IsEntry, IsFound, found_first}
use Rattle.vcm_spec.proofs.Entries.{entry_is, cancelled}
use Rattle.vcm_spec.proofs.Unique.{same_hit}
use Rattle.vcm_spec.proofs.Tips.{IsInOrder, block_in_order}
use Rattle.vcm_motion.specs.Places.{share, part_of_way, point_on_way}
use Rattle.vcm_motion.proofs.Inside.{block_at}
use Rattle.vcm_carried.specs.declared.contact.Contact.{Contact}
use Rattle.vcm_carried.specs.Carried.{BoxMeets, BoxMeetsBy, BoxEnters, Counts, spread, IsContactOn, IsFirstContact}
use Rattle.vcm_carried.specs.FirstCarried.{if_gone, if_later, box_entry, contact_at, box_contact}
use Rattle.vcm_carried.specs.Laws.{BoxContactIsComputed, BoxContactIsUnique}
use Rattle.vcm_carried.proofs.Boxes.{box_meets, meets_box, box_in_order}

-- no fraction of a way has the divisor 0
pub positive : (with_start : Bool) (gone : Fraction) (box : Block3) (x y : ℕ → ℤ) → IsPositive (Counts with_start gone box x y)
positive true gone box x y = λ block a b m. m.meets.fraction.positive
positive false gone box x y = λ block a b m. m.meets.meets.fraction.positive

pub not_later : (a b c d : ℕ) → nat_le (a * d) (c * b) ≡ true → a * d ≤ c * b
not_later a b c d t = grind arith

-- what is after is not before
pub later_than : (a b c d : ℕ) → nat_le (a * d) (c * b) ≡ false → a * d ≤ c * b → ⊥
later_than a b c d t l = let over : c * b < a * d = grind arith in absurd (omega (arith, over, l))

-- what is met at the start is met at 0/1
start_between : (low high p q : ℤ) (b : ℕ) → 0 < b → IsBetween low high p q 0 b → IsBetween low high p q 0 1
start_between low high p q b h on =
    let above = cancelled b low p h (let e = on.above in omega (arith, ints)) in
    let below = cancelled b p high h (let e = on.below in omega (arith, ints)) in
    record { above = omega (arith, ints); below = omega (arith, ints) }

module _ (box : Block3) (x y : ℕ → ℤ) (block : Block3) (sides : IsInOrder box) (order : IsInOrder block) where
  abbrev On : ℕ → ℕ → ℕ → Type 0
  On k a b = IsBetween (coordinate (spread box block).low k) (coordinate (spread box block).high k) (x k) (y k) a b

  pub at_start : (a b : ℕ) → a ≡ 0 → BoxMeets box x y block a b → BoxMeets box x y block 0 1
  at_start a b e m =
      let there = box_meets box x y block a b m in
      meets_box box x y block sides order 0 1 (record {
        fraction = record { positive = omega arith; within = omega arith };
        on_axis = λ k l. start_between _ _ _ _ b m.fraction.positive (subst (λ (n : ℕ). On k n b) e (there.on_axis k l));
      })

  module _ (gone : Fraction) where
    pub entry_by : (o : Option Fraction) → IsEntry (Meets x y) (spread box block) o → IsEntry (BoxMeetsBy gone box x y) block (if_gone gone o)
    entry_by None e = λ c d m. e c d (box_meets box x y block c d m.meets)
    entry_by (Some f) e = by (is_not_after f gone) refl
      where
        by : (t : Bool) → nat_le (f.num * gone.den) (gone.num * f.den) ≡ t → IsEntry (BoxMeetsBy gone box x y) block (if t then Some f else None)
        by true t = record {
          meets = record { meets = meets_box box x y block sides order f.num f.den e.meets; was_gone = not_later f.num f.den gone.num gone.den t };
          least = λ c d m. e.least c d (box_meets box x y block c d m.meets);
        }
        by false t = λ c d m.
            let least = e.least c d (box_meets box x y block c d m.meets) in
            let under = not_after_trans f.num f.den c d gone.num gone.den m.meets.fraction.positive least m.was_gone in
            absurd (later_than f.num f.den gone.num gone.den t under)

    -- a block that is entered, by the least fraction at which it is met
    pub entered_by : (a b : ℕ) → 0 < a → BoxMeetsBy gone box x y block a b → ((c d : ℕ) → BoxMeetsBy gone box x y block c d → a * d ≤ c * b) → BoxEnters gone box x y block a b
    entered_by a b h m least = record {
      meets = m;
      outside = λ s. (let l = least 0 1 (record { meets = s; was_gone = omega arith }) in absurd (omega (arith, l)));
    }

    pub never_entered : (a b : ℕ) → a ≡ 0 → BoxMeetsBy gone box x y block a b → (c d : ℕ) → BoxEnters gone box x y block c d → ⊥
    never_entered a b e m c d n = n.outside (at_start a b e m.meets)

    later_by : (o : Option Fraction) → IsEntry (BoxMeetsBy gone box x y) block o → IsEntry (BoxEnters gone box x y) block (if_later o)
    later_by None e = λ c d m. e c d m.meets
    later_by (Some f) e = by f.num refl
      where
        by : (n : ℕ) → f.num ≡ n → IsEntry (BoxEnters gone box x y) block (elim n [ zero ↦ None | suc n ↦ Some f ])
        by zero z = never_entered f.num f.den z e.meets
        by (suc n) z = record { meets = entered_by f.num f.den (omega arith) e.meets e.least; least = λ c d m. e.least c d m.meets }

    pub counted_entry : (with_start : Bool) → IsEntry (Counts with_start gone box x y) block (box_entry with_start gone box x y block)
    counted_entry true = entry_by (entry x y (spread box block)) (entry_is x y (spread box block))
    counted_entry false = later_by (if_gone gone (entry x y (spread box block))) (entry_by (entry x y (spread box block)) (entry_is x y (spread box block)))

-- ---- what is told

pub told : (blocks : List Block3) (M : Block3 → ℕ → ℕ → Type 0) → IsPositive M → (x y : ℕ → ℤ) (o : Option Entered) → IsFound M 1 blocks o
    → IsFirstContact blocks M x y (elim o [ None ↦ None | Some e ↦ Some (contact_at x y e) ])
told blocks M all x y None h = h
told blocks M all x y (Some e) h = record {
  is_hit = record {
    index = h.index;
    a = e.at.num;
    b = e.at.den;
    first = h.first;
    number = (let k = h.number in omega arith);
    permille = record {
      reached = div-mul-le_self (1000 * e.at.num) e.at.den;
      greatest = λ n l. le-div n (1000 * e.at.num) e.at.den (all h.first.block e.at.num e.at.den h.first.meets) l;
    };
  };
  stands = refl;
}

pub contact_is : BoxContactIsComputed
contact_is most box blocks sides all gone with_start x y =
    let M : Block3 → ℕ → ℕ → Type 0 = Counts with_start gone box x y in
    told blocks M (positive with_start gone box x y) x y (first_entered (box_entry with_start gone box x y) 1 blocks)
    (found_first M (positive with_start gone box x y) (box_entry with_start gone box x y) 1 blocks
    (λ j block stands. counted_entry box x y block (box_in_order most box sides) (block_in_order block (block_at blocks j block all stands)) gone with_start))

-- ---- one answer

-- two fractions, neither of which is the greater one
record AreEqual (f g : Fraction) : Type 0 where
  first : 0 < f.den
  second : 0 < g.den
  under : f.num * g.den ≤ g.num * f.den
  over : g.num * f.den ≤ f.num * g.den

share_le : (n a b c d : ℕ) → 0 < b → 0 < d → a * d ≤ c * b → n * a / b ≤ n * c / d
share_le n a b c d hb hd le =
    le-div (n * a / b) (n * c) d hd
    (le_of_mul-le-mul_left {k = b} (omega (arith, mul-le-mul_left d (div-mul-le_self (n * a) b), mul-le-mul_left n le)) hb)

same_part : (f g : Fraction) → AreEqual f g → (p q : ℤ) → part_of_way f p q ≡ part_of_way g p q
same_part f g e p q =
    let n = unsigned_abs (q -ℤ p) in
    let one = share_le n f.num f.den g.num g.den e.first e.second e.under in
    let two = share_le n g.num g.den f.num f.den e.second e.first e.over in
    let same : share f n ≡ share g n = omega arith in
    ap (λ (n : ℕ). if int_le p q then p +ℤ pos n else p -ℤ pos n) same

same_point : (f g : Fraction) → AreEqual f g → (x y : ℕ → ℤ) → point_on_way f x y ≡ point_on_way g x y
same_point f g e x y =
    ap (λ (a : ℤ). point a (part_of_way f (x 1) (y 1)) (part_of_way f (x 2) (y 2))) (same_part f g e (x 0) (y 0))
    ∙ ap (λ (a : ℤ). point (part_of_way g (x 0) (y 0)) a (part_of_way f (x 2) (y 2))) (same_part f g e (x 1) (y 1))
    ∙ ap (λ (a : ℤ). point (part_of_way g (x 0) (y 0)) (part_of_way g (x 1) (y 1)) a) (same_part f g e (x 2) (y 2))

abbrev contact_of : Hit → Point → Contact
contact_of hit at = record { hit = hit; at = at }

module _ (blocks : List Block3) (M : Block3 → ℕ → ℕ → Type 0) (all : IsPositive M) (x y : ℕ → ℤ) where
  same_contact : (a b : Contact) → IsContactOn blocks M x y a → IsContactOn blocks M x y b → a ≡ b
  same_contact a b h k =
      let f = h.is_hit.first in
      let g = k.is_hit.first in
      let equal : AreEqual (fraction h.is_hit.a h.is_hit.b) (fraction k.is_hit.a k.is_hit.b) = record {
        first = all f.block _ _ f.meets;
        second = all g.block _ _ g.meets;
        under = f.earliest k.is_hit.index g.block g.stands _ _ g.meets;
        over = g.earliest h.is_hit.index f.block f.stands _ _ f.meets;
      } in
      let there = h.stands ∙ same_point _ _ equal x y ∙ sym k.stands in
      ap (λ (n : Hit). contact_of n a.at) (same_hit blocks M all a.hit b.hit h.is_hit k.is_hit) ∙ ap (contact_of b.hit) there

  pub same_answer : (r s : Option Contact) → IsFirstContact blocks M x y r → IsFirstContact blocks M x y s → r ≡ s
  same_answer (Some a) (Some b) h k = ap Some (same_contact a b h k)
  same_answer (Some a) None h k = (let f = h.is_hit.first in absurd (k h.is_hit.index f.block f.stands _ _ f.meets))
  same_answer None (Some b) h k = (let f = k.is_hit.first in absurd (h k.is_hit.index f.block f.stands _ _ f.meets))
  same_answer None None h k = refl

pub contact_unique : BoxContactIsUnique
contact_unique most box blocks sides all gone with_start x y answer e =
    same_answer blocks (Counts with_start gone box x y) (positive with_start gone box x y) x y answer (box_contact with_start gone box x y blocks) e
    (contact_is most box blocks sides all gone with_start x y)

-- One block, axis by axis.
use Rattle.std.proofs.Common.{◌≡◌, ℕ, ◌+◌, ◌*◌, ◌<◌, ◌≤◌, ◌↔◌, arith, ℤ, Option, Some, None}
use borrow.Author.Count.{below_more}
use Rattle.vcm_num.specs.declared.point.Point.{Point}
use Rattle.vcm_num.specs.Point.{coordinate}
use Rattle.vcm_spec.specs.declared.workpiece.Block3.{Block3}
use Rattle.vcm_spec.specs.Contact.{IsFraction, IsBetween}
use Rattle.vcm_spec.specs.FirstContact.{Fraction}
use Rattle.vcm_spec.proofs.Fractions.{not_after_trans}
use Rattle.vcm_spec.proofs.Tips.{IsInOrder}
use Rattle.vcm_motion.proofs.Axes.{OnAxes}
use Rattle.vcm_carried.specs.declared.fraction.Stretch.{Stretch}
use Rattle.vcm_carried.specs.inner.Shared.{IsWithin, IsCommon, IsStretchOf}
use Rattle.vcm_carried.specs.Carried.{IsLeast, BoxMeetsBy, spread}
use Rattle.vcm_carried.proofs.Boxes.{box_meets, meets_box}

-- on the first n axes the centre of the tip lies in the block, and so much was gone
pub record OnBoth (gone : Fraction) (block : Block3) (p q : Point) (n a b : ℕ) : Type 0 where
  pub on : OnAxes block p q n a b
  pub was_gone : a * gone.den ≤ gone.num * b

-- the stretch in which it does, which ends within the way
pub record IsPart (gone : Fraction) (block : Block3) (p q : Point) (n : ℕ) (s : Stretch) : Type 0 where
  pub same : (a b : ℕ) → IsFraction a b → OnBoth gone block p q n a b ↔ IsWithin s a b
  pub ends : (a b : ℕ) → 0 < b → IsWithin s a b → a ≤ b

-- the numbers that the code reads on the axis n
pub record AreRead (block : Block3) (p q : Point) (n : ℕ) (low high from to : ℤ) : Type 0 where
  pub axis : n < 3
  pub low_is : low ≡ coordinate block.low n
  pub high_is : high ≡ coordinate block.high n
  pub from_is : from ≡ coordinate p n
  pub to_is : to ≡ coordinate q n

-- on no axis yet
pub begun : (gone : Fraction) (block : Block3) (p q : Point) (s : Stretch) → gone.num ≤ gone.den → s.enter.num ≡ 0 → s.leave.num ≡ gone.num → s.leave.den ≡ gone.den
    → IsPart gone block p q 0 s
begun gone block p q s within start num den =
    record {
      same = λ a b f. (
        λ h. record { after = rw start (omega arith); before = rw (num, den) h.was_gone },
        λ w. record { on = λ k l. absurd (omega arith); was_gone = rw (← num, ← den) w.before },
      );
      ends = λ a b h w. (let l : a * gone.den ≤ gone.num * b = rw (← num, ← den) w.before in
          let m = not_after_trans a b gone.num gone.den 1 1 (rw (← den) s.leave.positive) l (omega (arith, within)) in omega (arith, m));
    }

module _ (gone : Fraction) (block : Block3) (p q : Point) (n : ℕ) (low high from to : ℤ) (are : AreRead block p q n low high from to) where
  on_axis_n : (r : Option Stretch) → IsStretchOf r (IsBetween low high from to) → IsStretchOf r (IsBetween (coordinate block.low n) (coordinate block.high n) (coordinate p n) (coordinate q n))
  on_axis_n r h = rw (← are.low_is, ← are.high_is, ← are.from_is, ← are.to_is) h

  -- on one more
  pub next_part : (s t u : Stretch) → IsPart gone block p q n s → IsStretchOf (Some t) (IsBetween low high from to) → IsCommon s t u → IsPart gone block p q (n + 1) u
  next_part s t u part within common = record {
    same = λ a b f.
        let on = on_axis_n (Some t) within in (
          λ h. (common a b).1 ((part.same a b f).0 (record { on = λ k lt. h.on k (omega arith); was_gone = h.was_gone }), (on a b f).0 (h.on n (omega arith))),
          λ w. let both = (common a b).0 w in
              let before = (part.same a b f).1 both.0 in record { on = below_more _ _ before.on ((on a b f).1 both.1); was_gone = before.was_gone },
        );
    ends = λ a b h w. part.ends a b h ((common a b).0 w).0;
  }

module _ (gone : Fraction) (box block : Block3) (p q : Point) where
  abbrev By : ℕ → ℕ → Type 0
  By = BoxMeetsBy gone box (coordinate p) (coordinate q) block

  -- on none more
  pub no_part : (n : ℕ) (low high from to : ℤ) → AreRead (spread box block) p q n low high from to → IsStretchOf None (IsBetween low high from to) → (a b : ℕ) → By a b → ⊥
  no_part n low high from to are never a b m =
      let there = box_meets box (coordinate p) (coordinate q) block a b m.meets in
      on_axis_n gone (spread box block) p q n low high from to are None never a b there.fraction (there.on_axis n are.axis)

  on_all : (n : ℕ) (s : Stretch) → n ≡ 3 → IsPart gone (spread box block) p q n s → (a b : ℕ) → By a b → IsWithin s a b
  on_all n s all part a b m =
      let there = box_meets box (coordinate p) (coordinate q) block a b m.meets in
      (part.same a b m.meets.fraction).0 (record { on = λ k lt. there.on_axis k (omega arith); was_gone = m.was_gone })

  -- on all
  pub entered_at : IsInOrder box → IsInOrder block → (n : ℕ) (s : Stretch) → n ≡ 3 → IsPart gone (spread box block) p q n s → s.enter.num * s.leave.den ≤ s.leave.num * s.enter.den
      → IsLeast By s.enter.num s.enter.den
  entered_at sides order n s all part h =
      let within : IsWithin s s.enter.num s.enter.den = record { after = omega arith; before = h } in
      let f : IsFraction s.enter.num s.enter.den = record { positive = s.enter.positive; within = part.ends _ _ s.enter.positive within } in
      let here = (part.same s.enter.num s.enter.den f).1 within in
      record {
        meets = record {
          meets = meets_box box (coordinate p) (coordinate q) block sides order s.enter.num s.enter.den (record { fraction = f; on_axis = λ k lt. here.on k (omega arith) });
          was_gone = here.was_gone;
        };
        least = λ c d m. (on_all n s all part c d m).after;
      }

  pub never_met : (n : ℕ) (s : Stretch) → n ≡ 3 → IsPart gone (spread box block) p q n s → s.leave.num * s.enter.den < s.enter.num * s.leave.den → (a b : ℕ) → By a b → ⊥
  never_met n s all part h a b m =
      let w = on_all n s all part a b m in
      absurd (omega (arith, not_after_trans s.enter.num s.enter.den a b s.leave.num s.leave.den m.meets.fraction.positive w.after w.before))

-- A carried box meets a block where the centre of the tip lies in the spread one.
use Rattle.std.proofs.Common.{◌≡◌, ℕ, ◌<◌, ◌≤◌, ℤ, pos, ◌+ℤ◌, ◌-ℤ◌, ◌*ℤ◌, ◌≤ℤ◌, refl, ap, ◌∙◌, arith}
use Rattle.std.specs.Int.{int_max}
use Rattle.std.proofs.lemmas.Int.{ints, clamps}
use Rattle.vcm_num.specs.Point.{coordinate}
use Rattle.vcm_spec.specs.declared.workpiece.Block3.{Block3}
use Rattle.vcm_spec.specs.Workpiece.{grown}
use Rattle.vcm_spec.specs.Contact.{IsBetween, Meets, IsShared}
use Rattle.vcm_spec.proofs.Entries.{below_three, mul_le}
use Rattle.vcm_spec.proofs.Starts.{mul-sub}
use Rattle.vcm_spec.proofs.Tips.{IsInOrder, block_in_order, points_meet}
use Rattle.vcm_carried.specs.Carried.{IsBox, IsCarried, BoxMeets, spread}
use Rattle.vcm_carried.specs.Laws.{BoxesMeetSpreadBlocks, cube, CubesAreTips, PointsAreCentres, WiderBoxesMeetMore, UnmovedBoxesMeetTheSame}

-- ---- spread blocks

-- on one axis
pub spread_low : (box block : Block3) (k : ℕ) → k < 3 → coordinate (spread box block).low k ≡ coordinate block.low k -ℤ coordinate box.high k
spread_low box block = below_three (λ k. coordinate (spread box block).low k ≡ coordinate block.low k -ℤ coordinate box.high k) refl refl refl

pub spread_high : (box block : Block3) (k : ℕ) → k < 3 → coordinate (spread box block).high k ≡ coordinate block.high k -ℤ coordinate box.low k
spread_high box block = below_three (λ k. coordinate (spread box block).high k ≡ coordinate block.high k -ℤ coordinate box.low k) refl refl refl

pub less_by : {x y u v : ℤ} → x ≡ y → u ≡ v → x -ℤ u ≡ y -ℤ v
less_by {x} {y} {u} {v} e f = ap (λ t. t -ℤ u) e ∙ ap (λ t. y -ℤ t) f

module _ (l u low high p q : ℤ) (a b : ℕ) where
  pub carried_between : (c : ℤ) → IsCarried l u low high p q a b c → IsBetween (low -ℤ u) (high -ℤ l) p q a b
  carried_between c s =
      let d = mul-sub b low u in
      let e = mul-sub b high l in
      let s1 = s.above in
      let s2 = s.below in
      let s3 = s.from_low in
      let s4 = s.to_high in
      record { above = omega (arith, ints); below = omega (arith, ints) }

  abbrev lowest : ℤ
  lowest = int_max (pos b *ℤ low) (pos b *ℤ p +ℤ pos a *ℤ (q -ℤ p) +ℤ pos b *ℤ l)

  between_carried : l ≤ℤ u → low ≤ℤ high → IsBetween (low -ℤ u) (high -ℤ l) p q a b → IsCarried l u low high p q a b lowest
  between_carried sides order i =
      let d = mul-sub b low u in
      let e = mul-sub b high l in
      let i1 = i.above in
      let i2 = i.below in
      let wide = mul_le b l u sides in
      let high = mul_le b low high order in
      record { above = omega (arith, ints, clamps); below = omega (arith, ints, clamps); from_low = omega (arith, ints, clamps); to_high = omega (arith, ints, clamps) }

module _ (box : Block3) (x y : ℕ → ℤ) (block : Block3) where
  pub box_meets : (a b : ℕ) → BoxMeets box x y block a b → Meets x y (spread box block) a b
  box_meets a b m = record {
    fraction = m.fraction;
    on_axis = below_three (λ k. IsBetween (coordinate (spread box block).low k) (coordinate (spread box block).high k) (x k) (y k) a b)
        (carried_between _ _ _ _ _ _ a b (m.shared 0) (m.on_axis 0 (omega arith)))
        (carried_between _ _ _ _ _ _ a b (m.shared 1) (m.on_axis 1 (omega arith)))
        (carried_between _ _ _ _ _ _ a b (m.shared 2) (m.on_axis 2 (omega arith)));
  }

  abbrev shared_at : (a b k : ℕ) → ℤ
  shared_at a b k = lowest (coordinate box.low k) (coordinate box.high k) (coordinate block.low k) (coordinate block.high k) (x k) (y k) a b

  pub meets_box : IsInOrder box → IsInOrder block → (a b : ℕ) → Meets x y (spread box block) a b → BoxMeets box x y block a b
  meets_box sides order a b m = record {
    fraction = m.fraction;
    shared = shared_at a b;
    on_axis = below_three (λ k. IsCarried (coordinate box.low k) (coordinate box.high k) (coordinate block.low k) (coordinate block.high k) (x k) (y k) a b (shared_at a b k))
        (between_carried _ _ _ _ _ _ a b (sides 0 (omega arith)) (order 0 (omega arith)) (m.on_axis 0 (omega arith)))
        (between_carried _ _ _ _ _ _ a b (sides 1 (omega arith)) (order 1 (omega arith)) (m.on_axis 1 (omega arith)))
        (between_carried _ _ _ _ _ _ a b (sides 2 (omega arith)) (order 2 (omega arith)) (m.on_axis 2 (omega arith)));
  }

pub box_in_order : (most : ℕ) (box : Block3) → IsBox most box → IsInOrder box
box_in_order most box h = λ k l. (h k l).order

pub boxes_meet : BoxesMeetSpreadBlocks
boxes_meet most box block sides e x y a b = (box_meets box x y block a b, meets_box box x y block (box_in_order most box sides) (block_in_order block e) a b)

-- ---- cubes

module _ (h : ℕ) (low high p q : ℤ) (a b : ℕ) (c : ℤ) where
  lower_side : pos b *ℤ (pos 0 -ℤ pos h) ≡ pos 0 -ℤ pos b *ℤ pos h
  lower_side = let e = mul-sub b (pos 0) (pos h) in omega (arith, ints)

  cube_shared : IsCarried (pos 0 -ℤ pos h) (pos h) low high p q a b c → IsShared h low high p q a b c
  cube_shared s =
      let e = lower_side in
      let s3 = s.from_low in
      record { above = s.above; below = s.below; from_low = omega (arith, ints); to_high = s.to_high }

  shared_cube : IsShared h low high p q a b c → IsCarried (pos 0 -ℤ pos h) (pos h) low high p q a b c
  shared_cube s =
      let e = lower_side in
      let s3 = s.from_low in
      record { above = s.above; below = s.below; from_low = omega (arith, ints); to_high = s.to_high }

pub cubes_are : CubesAreTips
cubes_are h block x y a b = (
  λ m. record {
    fraction = m.fraction;
    shared = m.shared;
    on_axis = below_three (λ k. IsShared h (coordinate block.low k) (coordinate block.high k) (x k) (y k) a b (m.shared k))
        (cube_shared h _ _ _ _ a b _ (m.on_axis 0 (omega arith)))
        (cube_shared h _ _ _ _ a b _ (m.on_axis 1 (omega arith)))
        (cube_shared h _ _ _ _ a b _ (m.on_axis 2 (omega arith)));
  },
  λ m. record {
    fraction = m.fraction;
    shared = m.shared;
    on_axis = below_three (λ k. IsCarried (coordinate (cube h).low k) (coordinate (cube h).high k) (coordinate block.low k) (coordinate block.high k) (x k) (y k) a b (m.shared k))
        (shared_cube h _ _ _ _ a b _ (m.on_axis 0 (omega arith)))
        (shared_cube h _ _ _ _ a b _ (m.on_axis 1 (omega arith)))
        (shared_cube h _ _ _ _ a b _ (m.on_axis 2 (omega arith)));
  },
)

pub points_are : PointsAreCentres
points_are block x y a b = (
  λ m. (points_meet block x y a b).0 ((cubes_are 0 block x y a b).0 m),
  λ m. (cubes_are 0 block x y a b).1 ((points_meet block x y a b).1 m),
)

-- ---- wider boxes

wider_sides : (g more : ℕ) (l u low high p q : ℤ) (a b : ℕ) (c : ℤ) → g ≤ more → IsCarried (l -ℤ pos g) (u +ℤ pos g) low high p q a b c
    → IsCarried (l -ℤ pos more) (u +ℤ pos more) low high p q a b c
wider_sides g more l u low high p q a b c h s =
    let down = mul_le b (l -ℤ pos more) (l -ℤ pos g) (omega (arith, ints)) in
    let up = mul_le b (u +ℤ pos g) (u +ℤ pos more) (omega (arith, ints)) in
    let s3 = s.from_low in
    let s4 = s.to_high in
    record { above = s.above; below = s.below; from_low = omega (arith, ints); to_high = omega (arith, ints) }

pub wider_meet : WiderBoxesMeetMore
wider_meet box block x y g more a b h m = record {
  fraction = m.fraction;
  shared = m.shared;
  on_axis = below_three (λ k. IsCarried (coordinate (grown more box).low k) (coordinate (grown more box).high k) (coordinate block.low k) (coordinate block.high k) (x k) (y k) a b (m.shared k))
      (wider_sides g more _ _ _ _ _ _ a b _ h (m.on_axis 0 (omega arith)))
      (wider_sides g more _ _ _ _ _ _ a b _ h (m.on_axis 1 (omega arith)))
      (wider_sides g more _ _ _ _ _ _ a b _ h (m.on_axis 2 (omega arith)));
}

-- on one axis, moved out by nothing
module _ (l u low high p q : ℤ) (a b : ℕ) (c : ℤ) where
  same_low : l -ℤ pos 0 ≡ l
  same_low = omega (arith, ints)

  same_high : u +ℤ pos 0 ≡ u
  same_high = omega (arith, ints)

  moved_back : IsCarried (l -ℤ pos 0) (u +ℤ pos 0) low high p q a b c → IsCarried l u low high p q a b c
  moved_back h = record { above = h.above; below = h.below; from_low = (let e = h.from_low in rw (← same_low) e); to_high = (let e = h.to_high in rw (← same_high) e) }

  moved_there : IsCarried l u low high p q a b c → IsCarried (l -ℤ pos 0) (u +ℤ pos 0) low high p q a b c
  moved_there h = rw (same_low, same_high) h

pub unmoved_meet : UnmovedBoxesMeetTheSame
unmoved_meet box block x y a b = (
  λ m. record {
    fraction = m.fraction;
    shared = m.shared;
    on_axis = below_three (λ k. IsCarried (coordinate box.low k) (coordinate box.high k) (coordinate block.low k) (coordinate block.high k) (x k) (y k) a b (m.shared k))
        (moved_back _ _ _ _ _ _ a b _ (m.on_axis 0 (omega arith)))
        (moved_back _ _ _ _ _ _ a b _ (m.on_axis 1 (omega arith)))
        (moved_back _ _ _ _ _ _ a b _ (m.on_axis 2 (omega arith)));
  },
  λ m. record {
    fraction = m.fraction;
    shared = m.shared;
    on_axis = below_three (λ k. IsCarried (coordinate (grown 0 box).low k) (coordinate (grown 0 box).high k) (coordinate block.low k) (coordinate block.high k) (x k) (y k) a b (m.shared k))
        (moved_there _ _ _ _ _ _ a b _ (m.on_axis 0 (omega arith)))
        (moved_there _ _ _ _ _ _ a b _ (m.on_axis 1 (omega arith)))
        (moved_there _ _ _ _ _ _ a b _ (m.on_axis 2 (omega arith)));
  },
)

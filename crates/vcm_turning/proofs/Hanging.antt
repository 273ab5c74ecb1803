-- Where the tip hangs, and that it is near wherever a turn puts it.
use Rattle.std.proofs.Common.{◌≡◌, ℕ, ◌<◌, ℤ, pos, negsuc, ◌≤ℤ◌, true, Option, Some, None, refl, sym, ap, ◌∙◌, subst, arith, inl, inr}
use Rattle.std.specs.Prelude.{◌&&◌, int_le, List, IfSome}
use Rattle.std.proofs.lemmas.Bool.{and_parts, and_from}
use Rattle.std.proofs.lemmas.Int.{ints}
use Rattle.vcm_num.specs.declared.point.Point.{Point}
use Rattle.vcm_num.specs.Point.{coordinate, is_near_zero, is_near}
use Rattle.vcm_spec.specs.Setup.{Tables, setup_of}
use Rattle.vcm_spec.specs.Workpiece.{Workpiece, is_within}
use Rattle.vcm_spec.specs.World.{World}
use Rattle.vcm_spec.proofs.Entries.{true_le, le_true, below_three}
use Rattle.vcm_motion.proofs.Inside.{below_each}
use Rattle.vcm_code.specs.declared.pair.Pair.{Pair}
use Rattle.vcm_code.specs.Code.{Op}
use Rattle.vcm_code.specs.CodeTable.{CodeState, code_state, do_op}
use Rattle.vcm_boxes.specs.Boxes.{is_corner}
use Rattle.vcm_probe_set.specs.Parts.{is_turning_limit}
use Rattle.vcm_probe_set.specs.Probes.{Probe, IsProbe}
use Rattle.vcm_turning.specs.Choosing.{probe_on, turned_point, place_with, tipped, part_by}
use Rattle.vcm_turning.specs.Machine.{HasTurningLimits, IsWithinOf, HangsNear}
use Rattle.vcm_turning.proofs.Pivots.{pivot_is_kept}
use Rattle.vcm_turning.proofs.Positions.{StaysOrGoes, stays_or_goes}

-- ---- tests of three coordinates

near_by : (z : ℤ) → IsWithinOf 999999999 z → is_near_zero z ≡ true
near_by z h = and_from _ _ (true_le _ _ h.0) (true_le _ _ h.1)

pub near_if : (p : Point) → ((k : ℕ) → k < 3 → IsWithinOf 999999999 (coordinate p k)) → is_near p ≡ true
near_if p h = and_from _ _ (and_from _ _ (near_by _ (h 0 (omega arith))) (near_by _ (h 1 (omega arith)))) (near_by _ (h 2 (omega arith)))

test_by : (low high z : ℤ) → (int_le low z && int_le z high) ≡ true → (low ≤ℤ z) × (z ≤ℤ high)
test_by low high z h = let p = and_parts (int_le low z) (int_le z high) h in (le_true low z p.0, le_true z high p.1)

limit_each : (p : Point) → is_turning_limit p ≡ true → (k : ℕ) → k < 3 → IsWithinOf 979999999 (coordinate p k)
limit_each p h =
    let outer = and_parts _ _ h in
    let inner = and_parts _ _ outer.0 in
    below_three (λ k. IsWithinOf 979999999 (coordinate p k)) (test_by (negsuc 979999999) (pos 980000000) (coordinate p 0) inner.0)
    (test_by (negsuc 979999999) (pos 980000000) (coordinate p 1) inner.1) (test_by (negsuc 979999999) (pos 980000000) (coordinate p 2) outer.1)

corner_each : (p : Point) → is_corner p ≡ true → (k : ℕ) → k < 3 → IsWithinOf 9999999 (coordinate p k)
corner_each p h =
    let outer = and_parts _ _ h in
    let inner = and_parts _ _ outer.0 in
    below_three (λ k. IsWithinOf 9999999 (coordinate p k)) (test_by (negsuc 9999999) (pos 10000000) (coordinate p 0) inner.0)
    (test_by (negsuc 9999999) (pos 10000000) (coordinate p 1) inner.1) (test_by (negsuc 9999999) (pos 10000000) (coordinate p 2) outer.1)

-- ---- where the tip hangs

module _ (part : Workpiece) (limits : HasTurningLimits part) where
  -- within the limits it hangs near, without a probe and with any
  within_each : (p : Point) → is_within part.bounds (coordinate p) ≡ true → (k : ℕ) → k < 3 → IsWithinOf 979999999 (coordinate p k)
  within_each p h k l =
      let w = and_parts _ _ h in
      let b = and_parts (is_turning_limit part.bounds.low) (is_turning_limit part.bounds.high) limits in
      let low = limit_each part.bounds.low b.0 k l in
      let high = limit_each part.bounds.high b.1 k l in
      let above = below_each (coordinate part.bounds.low) (coordinate p) w.0 k l in
      let below = below_each (coordinate p) (coordinate part.bounds.high) w.1 k l in
      let from = low.0 in
      let to = high.1 in
      (omega (arith, ints), omega (arith, ints))

  pub near_within : (p : Point) → is_within part.bounds (coordinate p) ≡ true → is_near p ≡ true
  near_within p h = near_if p (λ k l. let z = within_each p h k l in let a = z.0 in let b = z.1 in (omega (arith, ints), omega (arith, ints)))

  hangs_within : (o : Option Probe) (valid : (q : Probe) → o ≡ Some q → is_corner q.pivot ≡ true) (p : Point) → is_within part.bounds (coordinate p) ≡ true → HangsNear o p
  hangs_within None valid p h = within_each p h
  hangs_within (Some q) valid p h = λ k l.
      let at = within_each p h k l in
      let off = corner_each q.pivot (valid q refl) k l in
      let a = at.0 in let b = at.1 in let c = off.0 in let d = off.1 in
      (omega (arith, ints), omega (arith, ints))

  -- at home it hangs near without a probe
  pub hangs_home : (home : Point) → is_within part.bounds (coordinate home) ≡ true → HangsNear None home
  hangs_home home h = within_each home h

  -- so it does behind a statement
  hangs_on : (o : Option Probe) (valid : (q : Probe) → o ≡ Some q → is_corner q.pivot ≡ true) (old new : Point) → HangsNear o old → StaysOrGoes part old new → HangsNear o new
  hangs_on o valid old new h (inl e) = subst (HangsNear o) (sym e) h
  hangs_on o valid old new h (inr w) = hangs_within o valid new w

tipped_limits : (part : Workpiece) (o : Option ℕ) → HasTurningLimits part → HasTurningLimits (tipped part o)
tipped_limits part None h = h
tipped_limits part (Some t) h = h

corner_of : (o : Option Probe) → IfSome o IsProbe → (q : Probe) → o ≡ Some q → is_corner q.pivot ≡ true
corner_of None h q e = absurd cc
corner_of (Some p) h q e = let same : p ≡ q = cc in subst (λ (x : Probe). is_corner x.pivot ≡ true) same h.pivot

-- it hangs near wherever it is put within the limits
pub hangs_placed : (part : Workpiece) (ps : List Probe) (on : Option ℕ) → HasTurningLimits part → IfSome (probe_on ps on) IsProbe → (p : Point)
    → is_within part.bounds (coordinate p) ≡ true → HangsNear (probe_on ps on) p
hangs_placed part ps on limits valid p h = hangs_within part limits (probe_on ps on) (corner_of (probe_on ps on) valid) p h

-- a statement that goes on leaves it near
pub hangs_after : (part : Workpiece) (ps : List Probe) (on : Option ℕ) → HasTurningLimits part → IfSome (probe_on ps on) IsProbe
    → (tables : Tables) (w new : World) (n line k : ℕ) (qs rs : List Pair) (op : Op)
    → do_op (setup_of (part_by part ps on) tables) op line w n qs ≡ code_state new k rs → HangsNear (probe_on ps on) w.position → HangsNear (probe_on ps on) new.position
hangs_after part ps on limits valid tables w new n line k qs rs op e h =
    let by = part_by part ps on in
    hangs_on by (tipped_limits part _ limits) (probe_on ps on) (corner_of (probe_on ps on) valid) w.position new.position h
    (subst (λ (m : CodeState). StaysOrGoes by w.position m.world.position) e (stays_or_goes (setup_of by tables) w n line qs op))

-- a turn puts it near, and it hangs near there
module _ (new : Probe) (pivot : is_corner new.pivot ≡ true) (at : Point) where
  pub turned_near : (o : Option Probe) → HangsNear o at → is_near (place_with at o (Some new)) ≡ true
  turned_near None h = near_if at (λ k l. let z = h k l in let a = z.0 in let b = z.1 in (omega (arith, ints), omega (arith, ints)))
  turned_near (Some old) h = near_if (turned_point at old.pivot new.pivot) (λ k l.
      let z = h k l in
      let off = corner_each new.pivot pivot k l in
      let kept = pivot_is_kept at old.pivot new.pivot k l in
      let a = z.0 in let b = z.1 in let c = off.0 in let d = off.1 in
      (omega (arith, ints, kept), omega (arith, ints, kept)))

  pub hangs_turned : (o : Option Probe) → HangsNear o at → HangsNear (Some new) (place_with at o (Some new))
  hangs_turned None h = λ k l.
      let z = h k l in
      let off = corner_each new.pivot pivot k l in
      let a = z.0 in let b = z.1 in let c = off.0 in let d = off.1 in
      (omega (arith, ints), omega (arith, ints))
  hangs_turned (Some old) h = λ k l.
      let z = h k l in
      let kept = pivot_is_kept at old.pivot new.pivot k l in
      let a = z.0 in let b = z.1 in
      (omega (arith, ints, kept), omega (arith, ints, kept))

-- so it is with places that are equal
module _ (new old : Probe) (pivot : is_corner new.pivot ≡ true) (at there p q : Point) (e : there ≡ turned_point at p q) (f : p ≡ old.pivot) (g : q ≡ new.pivot)
    (h : HangsNear (Some old) at) where
  is_there : there ≡ place_with at (Some old) (Some new)
  is_there = e ∙ ap (λ (x : Point). turned_point at x q) f ∙ ap (turned_point at old.pivot) g

  pub near_there : is_near there ≡ true
  near_there = subst (λ (x : Point). is_near x ≡ true) (sym is_there) (turned_near new pivot at (Some old) h)

  pub hangs_there : HangsNear (Some new) there
  hangs_there = subst (HangsNear (Some new)) (sym is_there) (hangs_turned new pivot at (Some old) h)

-- Ways past the edges of a block don't meet it.
use Rattle.std.proofs.Common.{◌≡◌, ℕ, ◌+◌, ◌-◌, ℤ, pos, ◌+ℤ◌, ◌-ℤ◌, ◌*ℤ◌, ◌≤ℤ◌, Bool, true, false, Option, Some, None, refl, ap, subst, arith}
use Rattle.std.specs.Prelude.{int_le, if◌then◌else◌}
use Rattle.std.proofs.lemmas.Int.{ints}
use Rattle.vcm_num.proofs.Ring.{mul-add, add-mul}
use Rattle.vcm_num.specs.declared.point.Point.{Point}
use Rattle.vcm_spec.specs.declared.workpiece.Block3.{Block3}
use Rattle.vcm_spec.specs.declared.workpiece.Bounds.{Bounds}
use Rattle.vcm_spec.specs.Contact.{IsFraction, IsShared, TipMeets}
use Rattle.vcm_spec.proofs.Entries.{mul_le, cancelled}
use Rattle.vcm_cause.specs.declared.sides.Side.{Side}
use Rattle.vcm_cause.specs.declared.sides.Side.TheVariants.{LowX, HighX, LowY, HighY}
use Rattle.vcm_cause.specs.declared.sides.FreeSide.{FreeSide}
use Rattle.vcm_cause.specs.Free.{gap, edge, past, offered, shift, nearer, beside, LiesPast}
use Rattle.vcm_cause.specs.Laws.{OverIsFree, BesideIsFree}

-- ---- on one axis

-- the place of a moving point, in b-ths: what is left of the way from p, and what is gone of it towards q
place_is : (p q : ℤ) (a d b : ℕ) → b ≡ a + d → (pos b *ℤ p +ℤ pos a *ℤ (q -ℤ p)) ≡ (pos d *ℤ p +ℤ pos a *ℤ q)
place_is p q a d b e =
    let back : (q -ℤ p) +ℤ p ≡ q = omega (arith, ints) in
    let t1 = mul-add (pos a) (q -ℤ p) p in
    let t2 = ap (λ (t : ℤ). pos a *ℤ t) back in
    let eb : pos b ≡ pos a +ℤ pos d = omega (arith, ints, e) in
    let t3 = ap (λ (t : ℤ). t *ℤ p) eb in
    let t4 = add-mul (pos a) (pos d) p in
    omega (arith, ints, t1, t2, t3, t4)

times_both : (z : ℤ) (a d b : ℕ) → b ≡ a + d → (pos b *ℤ z) ≡ (pos d *ℤ z +ℤ pos a *ℤ z)
times_both z a d b e =
    let eb : pos b ≡ pos a +ℤ pos d = omega (arith, ints, e) in
    let t3 = ap (λ (t : ℤ). t *ℤ z) eb in
    let t4 = add-mul (pos a) (pos d) z in
    omega (arith, ints, t3, t4)

-- both ends lie above the face by more than half the width of the tip
free_above : (h : ℕ) (low high p q z : ℤ) (a b : ℕ) (c : ℤ) → IsFraction a b → IsShared h low high p q a b c → high +ℤ gap h ≡ z → z ≤ℤ p → z ≤ℤ q → ⊥
free_above h low high p q z a b c f s e zp zq =
    let within = f.within in
    let eb : b ≡ a + (b - a) = omega (arith, within) in
    let t1 = place_is p q a (b - a) b eb in
    let t2 = times_both z a (b - a) b eb in
    let t3 = mul_le (b - a) z p zp in
    let t4 = mul_le a z q zq in
    let t5 = mul-add (pos b) high (pos h) in
    let s2 = s.below in
    let s3 = s.from_low in
    let most : (pos b *ℤ z) ≤ℤ (pos b *ℤ (high +ℤ pos h)) = omega (arith, ints, t1, t2, t3, t4, t5, s2, s3) in
    let no = cancelled b z (high +ℤ pos h) f.positive most in
    omega (arith, ints, e, no)

-- both ends lie below it by more than that
free_below : (h : ℕ) (low high p q z : ℤ) (a b : ℕ) (c : ℤ) → IsFraction a b → IsShared h low high p q a b c → low -ℤ gap h ≡ z → p ≤ℤ z → q ≤ℤ z → ⊥
free_below h low high p q z a b c f s e pz qz =
    let within = f.within in
    let eb : b ≡ a + (b - a) = omega (arith, within) in
    let t1 = place_is p q a (b - a) b eb in
    let t2 = times_both z a (b - a) b eb in
    let t3 = mul_le (b - a) p z pz in
    let t4 = mul_le a q z qz in
    let t5 = mul-add (pos b) z (pos h) in
    let s1 = s.above in
    let s4 = s.to_high in
    let least : (pos b *ℤ low) ≤ℤ (pos b *ℤ (z +ℤ pos h)) = omega (arith, ints, t1, t2, t3, t4, t5, s1, s4) in
    let no = cancelled b low (z +ℤ pos h) f.positive least in
    omega (arith, ints, e, no)

-- ---- edges

edge_is : (b : Bool) (w z : ℤ) → (if b then Some w else None) ≡ Some z → w ≡ z
edge_is true w z e = cc
edge_is false w z e = absurd cc

pub over_is_free : OverIsFree
over_is_free l block z e x y zx zy n d t =
    free_above l.tip _ _ (x 2) (y 2) z n d (t.shared 2) t.fraction (t.on_axis 2 (omega arith)) (edge_is _ _ z e) zx zy

module _ (l : Bounds) (block : Block3) where
  -- a side is told with its edge
  abbrev HasEdge : FreeSide → Type 0
  HasEdge s = edge l block s.side ≡ Some s.at

  abbrev Fine : Option FreeSide → Type 0
  Fine o = (s : FreeSide) → o ≡ Some s → HasEdge s

  past_fine : (side : Side) (o : Option ℤ) → edge l block side ≡ o → Fine (past side o)
  past_fine side None e s is = absurd (let no : None ≡ Some s = is in cc)
  past_fine side (Some z) e s is = let same : record { side = side; at = z } ≡ s = cc in subst HasEdge same e

  if_fine : (b : Bool) (s t : FreeSide) → HasEdge s → HasEdge t → Fine (if b then Some s else Some t)
  if_fine true s t hs ht u is = let same : s ≡ u = cc in subst HasEdge same hs
  if_fine false s t hs ht u is = let same : t ≡ u = cc in subst HasEdge same ht

  nearer_fine : (a b : Point) (o p : Option FreeSide) → Fine o → Fine p → Fine (nearer a b o p)
  nearer_fine a b None p fo fp = fp
  nearer_fine a b (Some s) None fo fp = fo
  nearer_fine a b (Some s) (Some t) fo fp = if_fine (int_le (shift a b s) (shift a b t)) s t (fo s refl) (fp t refl)

  offered_fine : (side : Side) → Fine (offered l block side)
  offered_fine side = past_fine side (edge l block side) refl

  beside_fine : (a b : Point) → Fine (beside l block a b)
  beside_fine a b =
      nearer_fine a b _ _ (offered_fine LowX) (nearer_fine a b _ _ (offered_fine HighX) (nearer_fine a b _ _ (offered_fine LowY) (offered_fine HighY)))

  past_is_free : (side : Side) (z : ℤ) → edge l block side ≡ Some z → (x y : ℕ → ℤ) → LiesPast side z x → LiesPast side z y → (n d : ℕ) → ¬ TipMeets l.tip x y block n d
  past_is_free LowX z e x y px py n d t =
      free_below l.tip _ _ (x 0) (y 0) z n d (t.shared 0) t.fraction (t.on_axis 0 (omega arith)) (edge_is _ _ z e) px py
  past_is_free HighX z e x y px py n d t =
      free_above l.tip _ _ (x 0) (y 0) z n d (t.shared 0) t.fraction (t.on_axis 0 (omega arith)) (edge_is _ _ z e) px py
  past_is_free LowY z e x y px py n d t =
      free_below l.tip _ _ (x 1) (y 1) z n d (t.shared 1) t.fraction (t.on_axis 1 (omega arith)) (edge_is _ _ z e) px py
  past_is_free HighY z e x y px py n d t =
      free_above l.tip _ _ (x 1) (y 1) z n d (t.shared 1) t.fraction (t.on_axis 1 (omega arith)) (edge_is _ _ z e) px py

pub beside_is_free : BesideIsFree
beside_is_free l block a b s e = past_is_free l block s.side s.at (beside_fine l block a b s e)

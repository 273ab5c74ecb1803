-- Where the cube of a tip lies in that of a wider one, and what the wider one then meets.
use Rattle.std.proofs.Common.{◌≡◌, ℕ, ◌+◌, ◌-◌, ◌<◌, ◌≤◌, ℤ, pos, negsuc, ◌+ℤ◌, ◌-ℤ◌, ◌*ℤ◌, ◌≤ℤ◌, Bool, true, false, ◌&&◌, List, [], ◌∷◌, refl, ap, ◌∙◌, arith}
use Rattle.std.specs.Prelude.{◌||◌, ◌==◌, int_le, if◌then◌else◌}
use Rattle.std.specs.List.{list_any}
use Rattle.std.proofs.lemmas.Bool.{and_parts, and_from}
use Rattle.std.proofs.lemmas.Int.{ints}
use Rattle.vcm_num.proofs.Ring.{mul-add, add-mul}
use Rattle.vcm_num.specs.declared.axis.Axis.{Axis}
use Rattle.vcm_num.specs.declared.axis.Axis.TheVariants.{PlusX, MinusX, PlusY, MinusY, PlusZ, MinusZ}
use Rattle.vcm_num.specs.Axis.{along, unit, opposite}
use Rattle.vcm_num.specs.Point.{coordinate, is_below, on_each}
use Rattle.vcm_spec.specs.declared.workpiece.Block3.{Block3}
use Rattle.vcm_spec.specs.declared.workpiece.Bounds.{Bounds}
use Rattle.vcm_spec.specs.Workpiece.{grown, is_met, is_some_met, is_within}
use Rattle.vcm_spec.specs.Contact.{IsShared, TipMeets, TipMeetsLater, IsClear}
use Rattle.vcm_spec.proofs.Entries.{le_true, true_le, below_three, mul_le}

-- the cube of half width g round the place y lies in that of half width h round the place x
pub record LiesIn (g : ℕ) (y : ℕ → ℤ) (h : ℕ) (x : ℕ → ℤ) : Type 0 where
  pub low : (k : ℕ) → k < 3 → (x k -ℤ pos h) ≤ℤ (y k -ℤ pos g)
  pub high : (k : ℕ) → k < 3 → (y k +ℤ pos g) ≤ℤ (x k +ℤ pos h)

-- it lies there too where both are moved alike
pub lies_along : (g h : ℕ) (x y : ℕ → ℤ) (d : Axis) (n : ℕ) → LiesIn g y h x → LiesIn g (along y d n) h (along x d n)
lies_along g h x y d n l = record {
  low = λ k b. (let e = l.low k b in omega (arith, ints));
  high = λ k b. (let e = l.high k b in omega (arith, ints));
}

-- round one place the narrower cube lies in the wider one
pub lies_there : (g h : ℕ) (x : ℕ → ℤ) → g ≤ h → LiesIn g x h x
lies_there g h x le = record { low = λ k b. omega (arith, ints, le); high = λ k b. omega (arith, ints, le) }

-- ---- moving tips

mul-minus : (n : ℕ) (y z : ℤ) → pos n *ℤ (z -ℤ y) ≡ pos n *ℤ z -ℤ pos n *ℤ y
mul-minus n y z =
    let back : (z -ℤ y) +ℤ y ≡ z = omega (arith, ints) in
    let e = mul-add (pos n) (z -ℤ y) y in
    let f = ap (λ (t : ℤ). pos n *ℤ t) back in
    omega (arith, ints, e, f)

-- a fraction of the way, as a mean of its two ends
mean : (a r b : ℕ) → a + r ≡ b → (z : ℤ) → pos b *ℤ z ≡ pos a *ℤ z +ℤ pos r *ℤ z
mean a r b e z =
    let s : pos b ≡ pos a +ℤ pos r = omega (arith, ints, e) in
    ap (λ (t : ℤ). t *ℤ z) s ∙ add-mul (pos a) (pos r) z

less_mean : (a r g h : ℕ) (p q s t : ℤ) → (s -ℤ pos h) ≤ℤ (p -ℤ pos g) → (t -ℤ pos h) ≤ℤ (q -ℤ pos g)
    → (pos r *ℤ s +ℤ pos a *ℤ t -ℤ (pos a *ℤ pos h +ℤ pos r *ℤ pos h)) ≤ℤ (pos r *ℤ p +ℤ pos a *ℤ q -ℤ (pos a *ℤ pos g +ℤ pos r *ℤ pos g))
less_mean a r g h p q s t l m =
    let e = mul_le r (s -ℤ pos h) (p -ℤ pos g) l in
    let f = mul_le a (t -ℤ pos h) (q -ℤ pos g) m in
    let e1 = mul-minus r (pos h) s in
    let e2 = mul-minus r (pos g) p in
    let f1 = mul-minus a (pos h) t in
    let f2 = mul-minus a (pos g) q in
    omega (arith, ints)

more_mean : (a r g h : ℕ) (p q s t : ℤ) → (p +ℤ pos g) ≤ℤ (s +ℤ pos h) → (q +ℤ pos g) ≤ℤ (t +ℤ pos h)
    → (pos r *ℤ p +ℤ pos a *ℤ q +ℤ (pos a *ℤ pos g +ℤ pos r *ℤ pos g)) ≤ℤ (pos r *ℤ s +ℤ pos a *ℤ t +ℤ (pos a *ℤ pos h +ℤ pos r *ℤ pos h))
more_mean a r g h p q s t l m =
    let e = mul_le r (p +ℤ pos g) (s +ℤ pos h) l in
    let f = mul_le a (q +ℤ pos g) (t +ℤ pos h) m in
    let e1 = mul-add (pos r) p (pos g) in
    let e2 = mul-add (pos r) s (pos h) in
    let f1 = mul-add (pos a) q (pos g) in
    let f2 = mul-add (pos a) t (pos h) in
    omega (arith, ints)

-- on one axis, what a narrower tip shares with a block, a wider one round it shares too
shared_wider : (a r b : ℕ) → a + r ≡ b → (g h : ℕ) (low high p q s t c : ℤ)
    → (s -ℤ pos h) ≤ℤ (p -ℤ pos g) → (t -ℤ pos h) ≤ℤ (q -ℤ pos g) → (p +ℤ pos g) ≤ℤ (s +ℤ pos h) → (q +ℤ pos g) ≤ℤ (t +ℤ pos h)
    → IsShared g low high p q a b c → IsShared h low high s t a b c
shared_wider a r b e g h low high p q s t c l m u v x =
    let under = less_mean a r g h p q s t l m in
    let over = more_mean a r g h p q s t u v in
    let i = mean a r b e p in
    let j = mean a r b e s in
    let k = mean a r b e (pos g) in
    let n = mean a r b e (pos h) in
    let y = mul-minus a p q in
    let z = mul-minus a s t in
    let from = x.from_low in
    let to = x.to_high in
    record { above = x.above; below = x.below; from_low = omega (arith, ints); to_high = omega (arith, ints) }

module _ (g h : ℕ) (x y s t : ℕ → ℤ) (starts : LiesIn g x h s) (ends : LiesIn g y h t) (block : Block3) where
  -- a wider tip meets at a fraction what a narrower one meets there that lies in it at the start and at the end
  pub tip_wider : (a b : ℕ) → TipMeets g x y block a b → TipMeets h s t block a b
  tip_wider a b m =
      let n : (r : ℕ) × (a + r ≡ b) = rest a b m.fraction.within in
      record {
        fraction = m.fraction;
        shared = m.shared;
        on_axis = λ k l. shared_wider a n.0 b n.1 g h (coordinate block.low k) (coordinate block.high k) (x k) (y k) (s k) (t k) (m.shared k)
            (starts.low k l) (ends.low k l) (starts.high k l) (ends.high k l) (m.on_axis k l);
      }
    where
      rest : (a b : ℕ) → a ≤ b → (r : ℕ) × (a + r ≡ b)
      rest a b l = (b - a, omega (arith, l))

  pub tip_wider_later : (a b : ℕ) → TipMeetsLater g x y block a b → TipMeetsLater h s t block a b
  tip_wider_later a b m = record { meets = tip_wider a b m.meets; later = m.later }

-- so where the wider tip meets nothing, the narrower one doesn't either
pub clear_narrower : (g h : ℕ) (x y s t : ℕ → ℤ) → LiesIn g x h s → LiesIn g y h t → (blocks : List Block3)
    → IsClear blocks (TipMeets h s t) → IsClear blocks (TipMeets g x y)
clear_narrower g h x y s t starts ends blocks clear j block stands a b m = clear j block stands a b (tip_wider g h x y s t starts ends block a b m)

pub clear_narrower_later : (g h : ℕ) (x y s t : ℕ → ℤ) → LiesIn g x h s → LiesIn g y h t → (blocks : List Block3)
    → IsClear blocks (TipMeetsLater h s t) → IsClear blocks (TipMeetsLater g x y)
clear_narrower_later g h x y s t starts ends blocks clear j block stands a b m = clear j block stands a b (tip_wider_later g h x y s t starts ends block a b m)

-- ---- tips at rest

three : (test : ℕ → Bool) → on_each test ≡ true → (test 0 ≡ true) × (test 1 ≡ true) × (test 2 ≡ true)
three test h =
    let a = and_parts (test 0 && test 1) (test 2) h in
    let b = and_parts (test 0) (test 1) a.0 in
    (b.0, b.1, a.1)

each_of : (x y : ℕ → ℤ) → is_below x y ≡ true → (k : ℕ) → k < 3 → x k ≤ℤ y k
each_of x y e =
    let h = three (λ k. int_le (x k) (y k)) e in
    below_three (λ k. x k ≤ℤ y k) (le_true _ _ h.0) (le_true _ _ h.1) (le_true _ _ h.2)

below_of : (x y : ℕ → ℤ) → ((k : ℕ) → k < 3 → x k ≤ℤ y k) → is_below x y ≡ true
below_of x y h =
    and_from _ _ (and_from _ _ (true_le _ _ (h 0 (omega arith))) (true_le _ _ (h 1 (omega arith)))) (true_le _ _ (h 2 (omega arith)))

-- a wider tip meets what a narrower one meets that lies in it
met_wider : (g h : ℕ) (x y : ℕ → ℤ) → LiesIn g y h x → (block : Block3) → is_met g block y ≡ true → is_met h block x ≡ true
met_wider g h x y l block e =
    let parts = and_parts _ _ e in
    let low = each_of (coordinate (grown g block).low) y parts.0 in
    let high = each_of y (coordinate (grown g block).high) parts.1 in
    let above = below_three (λ k. coordinate (grown h block).low k ≤ℤ x k)
    (let a = low 0 (omega arith) in let b = l.high 0 (omega arith) in omega (arith, ints))
    (let a = low 1 (omega arith) in let b = l.high 1 (omega arith) in omega (arith, ints))
    (let a = low 2 (omega arith) in let b = l.high 2 (omega arith) in omega (arith, ints)) in
    let below = below_three (λ k. x k ≤ℤ coordinate (grown h block).high k)
    (let a = high 0 (omega arith) in let b = l.low 0 (omega arith) in omega (arith, ints))
    (let a = high 1 (omega arith) in let b = l.low 1 (omega arith) in omega (arith, ints))
    (let a = high 2 (omega arith) in let b = l.low 2 (omega arith) in omega (arith, ints)) in
    and_from _ _ (below_of (coordinate (grown h block).low) x above) (below_of x (coordinate (grown h block).high) below)

any_more : (f g : Block3 → Bool) → ((b : Block3) → f b ≡ true → g b ≡ true) → (bs : List Block3) → list_any f bs ≡ true → list_any g bs ≡ true
any_more f g more [] e = e
any_more f g more (b ∷ bs) e = by (f b) refl (g b) refl e (any_more f g more bs)
  where
    by : (p : Bool) → f b ≡ p → (q : Bool) → g b ≡ q → (p || list_any f bs) ≡ true → (list_any f bs ≡ true → list_any g bs ≡ true)
        → (q || list_any g bs) ≡ true
    by p i true j h rest = refl
    by true i false j h rest = (let k = more b i in absurd cc)
    by false i false j h rest = rest h

pub some_met_wider : (g h : ℕ) (x y : ℕ → ℤ) → LiesIn g y h x → (blocks : List Block3) → is_some_met g blocks y ≡ true → is_some_met h blocks x ≡ true
some_met_wider g h x y l blocks e = any_more (λ b. is_met g b y) (λ b. is_met h b x) (λ b. met_wider g h x y l b) blocks e

-- ---- places between two

-- a number lies between two others, whichever of these is the greater one
pub record IsMiddle (x y z : ℤ) : Type 0 where
  pub over : (l : ℤ) → l ≤ℤ x → l ≤ℤ z → l ≤ℤ y
  pub under : (l : ℤ) → x ≤ℤ l → z ≤ℤ l → y ≤ℤ l

-- it lies there too where all three are moved alike
pub middle_along : (x y z : ℕ → ℤ) (d : Axis) (n k : ℕ) → IsMiddle (x k) (y k) (z k) → IsMiddle (along x d n k) (along y d n k) (along z d n k)
middle_along x y z d n k m = record {
  over = λ l a b. (let e = m.over (l -ℤ (pos n *ℤ unit d k)) (omega (arith, ints, a)) (omega (arith, ints, b)) in omega (arith, ints, e));
  under = λ l a b. (let e = m.under (l -ℤ (pos n *ℤ unit d k)) (omega (arith, ints, a)) (omega (arith, ints, b)) in omega (arith, ints, e));
}

-- a place between two that are within the limits is
pub within_middle : (bounds : Bounds) (x y z : ℕ → ℤ) → ((k : ℕ) → k < 3 → IsMiddle (x k) (y k) (z k))
    → is_within bounds x ≡ true → is_within bounds z ≡ true → is_within bounds y ≡ true
within_middle bounds x y z m e f =
    let a = and_parts _ _ e in
    let b = and_parts _ _ f in
    and_from _ _
    (below_of (coordinate bounds.low) y (λ k l. (m k l).over _ (each_of (coordinate bounds.low) x a.0 k l) (each_of (coordinate bounds.low) z b.0 k l)))
    (below_of y (coordinate bounds.high) (λ k l. (m k l).under _ (each_of x (coordinate bounds.high) a.1 k l) (each_of z (coordinate bounds.high) b.1 k l)))

-- ---- along a direction and back

-- what holds of the coordinates of a direction and of the one back, on its own axis and on the others
over_units : (P : ℤ → ℤ → Type 0) → P (pos 1) (negsuc 0) → P (negsuc 0) (pos 1) → P (pos 0) (pos 0) → (d : Axis) (k : ℕ) → P (unit d k) (unit (opposite d) k)
over_units P a b c PlusX k = elim (k == 0) as (λ t. P (if t then pos 1 else pos 0) (if t then negsuc 0 else pos 0)) [ true ↦ a | false ↦ c ]
over_units P a b c MinusX k = elim (k == 0) as (λ t. P (if t then negsuc 0 else pos 0) (if t then pos 1 else pos 0)) [ true ↦ b | false ↦ c ]
over_units P a b c PlusY k = elim (k == 1) as (λ t. P (if t then pos 1 else pos 0) (if t then negsuc 0 else pos 0)) [ true ↦ a | false ↦ c ]
over_units P a b c MinusY k = elim (k == 1) as (λ t. P (if t then negsuc 0 else pos 0) (if t then pos 1 else pos 0)) [ true ↦ b | false ↦ c ]
over_units P a b c PlusZ k = elim (k == 2) as (λ t. P (if t then pos 1 else pos 0) (if t then negsuc 0 else pos 0)) [ true ↦ a | false ↦ c ]
over_units P a b c MinusZ k = elim (k == 2) as (λ t. P (if t then negsuc 0 else pos 0) (if t then pos 1 else pos 0)) [ true ↦ b | false ↦ c ]

-- of two tips whose faces are at one place, the wider one's centre is farther along the direction, by no more than it is wider
pub lies_off : (g h : ℕ) → g ≤ h → (x : ℕ → ℤ) (d : Axis) → LiesIn g (along x d g) h (along x d h)
lies_off g h le x d = record {
  low = λ k b. over_units (λ u v. (x k +ℤ pos h *ℤ u -ℤ pos h) ≤ℤ (x k +ℤ pos g *ℤ u -ℤ pos g)) (omega (arith, ints, le)) (omega (arith, ints, le)) (omega (arith, ints, le)) d k;
  high = λ k b. over_units (λ u v. (x k +ℤ pos g *ℤ u +ℤ pos g) ≤ℤ (x k +ℤ pos h *ℤ u +ℤ pos h)) (omega (arith, ints, le)) (omega (arith, ints, le)) (omega (arith, ints, le)) d k;
}

-- and that of a tip between them lies between
pub middle_off : (g h i : ℕ) → g ≤ h → h ≤ i → (x : ℕ → ℤ) (d : Axis) (k : ℕ) → IsMiddle (along x d g k) (along x d h k) (along x d i k)
middle_off g h i le more x d k = record {
  over = λ l. over_units (λ u v. l ≤ℤ (x k +ℤ pos g *ℤ u) → l ≤ℤ (x k +ℤ pos i *ℤ u) → l ≤ℤ (x k +ℤ pos h *ℤ u))
      (λ a b. omega (arith, ints, le, more, a, b)) (λ a b. omega (arith, ints, le, more, a, b)) (λ a b. omega (arith, ints, le, more, a, b)) d k;
  under = λ l. over_units (λ u v. (x k +ℤ pos g *ℤ u) ≤ℤ l → (x k +ℤ pos i *ℤ u) ≤ℤ l → (x k +ℤ pos h *ℤ u) ≤ℤ l)
      (λ a b. omega (arith, ints, le, more, a, b)) (λ a b. omega (arith, ints, le, more, a, b)) (λ a b. omega (arith, ints, le, more, a, b)) d k;
}

-- the middle of the face goes through the same places whatever the width: so far past the place of the face, and down again from there
pub face_same : (g h : ℕ) (x : ℕ → ℤ) (d : Axis) (n t k : ℕ)
    → along (along (along (along x d g) d n) (opposite d) t) (opposite d) g k ≡ along (along (along (along x d h) d n) (opposite d) t) (opposite d) h k
face_same g h x d n t k =
    over_units (λ u v. (x k +ℤ pos g *ℤ u +ℤ pos n *ℤ u +ℤ pos t *ℤ v +ℤ pos g *ℤ v) ≡ (x k +ℤ pos h *ℤ u +ℤ pos n *ℤ u +ℤ pos t *ℤ v +ℤ pos h *ℤ v))
    (omega (arith, ints)) (omega (arith, ints)) (omega (arith, ints)) d k

-- a place of the face tells how far down it is
pub face_tells : (g : ℕ) (x : ℕ → ℤ) (d : Axis) (n t u : ℕ) → ((k : ℕ) → k < 3
    → along (along (along (along x d g) d n) (opposite d) t) (opposite d) g k ≡ along (along (along (along x d g) d n) (opposite d) u) (opposite d) g k) → t ≡ u
face_tells g x PlusX n t u e = (let f = e 0 (omega arith) in omega (arith, ints, f))
face_tells g x MinusX n t u e = (let f = e 0 (omega arith) in omega (arith, ints, f))
face_tells g x PlusY n t u e = (let f = e 1 (omega arith) in omega (arith, ints, f))
face_tells g x MinusY n t u e = (let f = e 1 (omega arith) in omega (arith, ints, f))
face_tells g x PlusZ n t u e = (let f = e 2 (omega arith) in omega (arith, ints, f))
face_tells g x MinusZ n t u e = (let f = e 2 (omega arith) in omega (arith, ints, f))

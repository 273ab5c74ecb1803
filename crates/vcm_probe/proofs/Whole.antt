-- Contact after the start of a move along an axis, by whole distances.
use Rattle.std.proofs.Common.{◌≡◌, ℕ, zero, suc, ◌+◌, ◌*◌, ◌/◌, ◌<◌, ◌≤◌, ℤ, pos, negsuc, ◌+ℤ◌, ◌-ℤ◌, ◌*ℤ◌, ◌≤ℤ◌, arith, sym, ap, ◌∙◌, inl, inr}
use Rattle.std.proofs.Math.Nat.{mul-le-mul_left, mul-le-mul_right, le_of_mul-le-mul_left}
use Rattle.std.proofs.lemmas.Int.{ints}
use Rattle.std.proofs.lemmas.Bool.{cases_eq, cases_lt, cases_Bool}
use borrow.Author.Differences.{product_is}
use Rattle.vcm_num.specs.declared.axis.Axis.{Axis}
use Rattle.vcm_num.specs.Point.{coordinate}
use Rattle.vcm_num.specs.Axis.{axis_of, is_forward, unit, along}
use Rattle.vcm_num.proofs.DirectionLemmas.{along_forward, along_back, along_other}
use Rattle.vcm_num.proofs.Ring.{mul-add}
use Rattle.vcm_spec.specs.declared.workpiece.Block3.{Block3}
use Rattle.vcm_spec.specs.Contact.{IsBetween, Meets, MeetsLater}
use Rattle.vcm_spec.proofs.Entries.{mul_le}
use Rattle.vcm_motion.specs.inner.Stretches.{IsReached}
use Rattle.vcm_motion.proofs.Crossings.{rising, falling}
use Rattle.vcm_motion.proofs.Inside.{Holds}

-- v is the whole part of x/b
record IsFloor (x b v : ℕ) : Type 0 where
  reached : v * b ≤ x
  short : x < v * b + b

floor_of : (x b : ℕ) → 0 < b → IsFloor x b (x / b)
floor_of x b h = record { reached = omega arith; short = omega arith }

-- what is reached at a fraction is reached at the whole distance below
floor_near : (near far : ℤ) (n a b v : ℕ) → 0 < b → IsReached near far (pos n) a b → IsFloor (a * n) b v → near ≤ℤ pos v
floor_near (pos m) far n a b v h r f = elim (cases_lt v m) [
  | inl l ↦ absurd (omega (arith, ints, r.above, f.short, mul-le-mul_left b l))
  | inr l ↦ omega (arith, ints)
]
floor_near (negsuc m) far n a b v h r f = omega (arith, ints)

floor_far : (near far : ℤ) (n a b v : ℕ) → 0 < b → IsReached near far (pos n) a b → IsFloor (a * n) b v → pos v ≤ℤ far
floor_far near (pos m) n a b v h r f = elim (cases_lt m v) [
  | inl l ↦ absurd (omega (arith, ints, r.below, f.reached, mul-le-mul_left b l))
  | inr l ↦ omega (arith, ints)
]
floor_far near (negsuc m) n a b v h r f = absurd (omega (arith, ints, r.below))

-- and at 1, where it is reached after the start
one_far : (near far : ℤ) (n a b : ℕ) → 0 < b → 0 < a → 0 < n → IsReached near far (pos n) a b → pos 1 ≤ℤ far
one_far near (pos zero) n a b h ha hn r = absurd (omega (arith, ints, r.below, mul-le-mul_left a hn))
one_far near (pos (suc m)) n a b h ha hn r = omega (arith, ints)
one_far near (negsuc m) n a b h ha hn r = absurd (omega (arith, ints, r.below))

-- a coordinate lies between two numbers
pub record StaysBetween (low high z : ℤ) : Type 0 where
  pub from_low : low ≤ℤ z
  pub to_high : z ≤ℤ high

pub holds_each : (block : Block3) (x : ℕ → ℤ) → ((k : ℕ) → k < 3 → StaysBetween (coordinate block.low k) (coordinate block.high k) (x k)) → Holds block x
holds_each block x h = record { from_low = λ k l. (h k l).from_low; to_high = λ k l. (h k l).to_high }

-- on an axis across the move
still : (low high z e : ℤ) (a b : ℕ) → e ≡ z → 0 < b → IsBetween low high z e a b → StaysBetween low high z
still low high z e a b same h i =
    let zero_run : e -ℤ z ≡ pos 0 = omega (arith, ints) in
    let r : IsReached (low -ℤ z) (high -ℤ z) (pos 0) a b = rw (← zero_run) ((rising low high z e a b).0 i) in
    let f : IsFloor (a * 0) b 0 = record { reached = omega arith; short = omega arith } in
    let l = floor_near (low -ℤ z) (high -ℤ z) 0 a b 0 h r f in
    let u = floor_far (low -ℤ z) (high -ℤ z) 0 a b 0 h r f in
    record { from_low = omega (arith, ints); to_high = omega (arith, ints) }

-- the whole distance v is reached where the fraction a/b of n is
abbrev AreReached : ℕ → ℕ → ℕ → ℕ → Type 0
AreReached n a b v = (near far : ℤ) → IsReached near far (pos n) a b → StaysBetween near far (pos v)

at_floor : (n a b v : ℕ) → 0 < b → IsFloor (a * n) b v → AreReached n a b v
at_floor n a b v h f = λ near far r. record { from_low = floor_near near far n a b v h r f; to_high = floor_far near far n a b v h r f }

at_one : (n a b : ℕ) → 0 < b → 0 < a → 0 < n → IsFloor (a * n) b 0 → AreReached n a b 1
at_one n a b h ha hn f = λ near far r. record { from_low = (let l = floor_near near far n a b 0 h r f in omega (arith, ints)); to_high = one_far near far n a b h ha hn r }

-- the place there, on one axis
on_axis : (x : ℕ → ℤ) (d : Axis) (n a b v : ℕ) → 0 < b → AreReached n a b v → (low high : ℤ) (k : ℕ) → IsBetween low high (x k) (along x d n k) a b → StaysBetween low high (along x d v k)
on_axis x d n a b v h reached low high k i = elim (cases_eq k (axis_of d)) [
  | inr ne ↦ rw (along_other x d v k ne) (still low high (x k) (along x d n k) a b (along_other x d n k ne) h i)
  | inl at ↦ elim (cases_Bool (is_forward d)) [
    | inl up ↦
        let end : along x d n k ≡ x k +ℤ pos n = rw at (along_forward x d n up) in
        let here : along x d v k ≡ x k +ℤ pos v = rw at (along_forward x d v up) in
        let run : along x d n k -ℤ x k ≡ pos n = omega (arith, ints) in
        let s = reached (low -ℤ x k) (high -ℤ x k) (rw (← run) ((rising low high (x k) (along x d n k) a b).0 i)) in
        let l = s.from_low in
        let u = s.to_high in
        rw here (record { from_low = omega (arith, ints); to_high = omega (arith, ints) })
    | inr down ↦
        let end : along x d n k ≡ x k -ℤ pos n = rw at (along_back x d n down) in
        let here : along x d v k ≡ x k -ℤ pos v = rw at (along_back x d v down) in
        let run : x k -ℤ along x d n k ≡ pos n = omega (arith, ints) in
        let s = reached (x k -ℤ high) (x k -ℤ low) (rw (← run) ((falling low high (x k) (along x d n k) a b).0 i)) in
        let l = s.from_low in
        let u = s.to_high in
        rw here (record { from_low = omega (arith, ints); to_high = omega (arith, ints) })
  ]
]

holds_there : (x : ℕ → ℤ) (d : Axis) (n : ℕ) (block : Block3) (a b v : ℕ) → Meets x (along x d n) block a b → AreReached n a b v → Holds block (along x d v)
holds_there x d n block a b v m reached = holds_each block (along x d v) (λ k l. on_axis x d n a b v m.fraction.positive reached (coordinate block.low k) (coordinate block.high k) k (m.on_axis k l))

-- a whole distance v after the start, no longer than a/b of the move, at which the place lies in the block
pub record IsWholeAfter (x : ℕ → ℤ) (d : Axis) (n : ℕ) (block : Block3) (a b v : ℕ) : Type 0 where
  pub some : 1 ≤ v
  pub within : v ≤ n
  pub reached : v * b ≤ a * n
  pub holds : Holds block (along x d v)

-- a block that is met after the start, and in which the place doesn't lie one step on, is met at such a distance
pub whole_after : (x : ℕ → ℤ) (d : Axis) (n : ℕ) (block : Block3) (a b : ℕ) → 0 < n → MeetsLater x (along x d n) block a b → ¬ Holds block (along x d 1) →
    (v : ℕ) × IsWholeAfter x d n block a b v
whole_after x d n block a b hn m free =
    let h : 0 < b = m.meets.fraction.positive in
    let f = floor_of (a * n) b h in
    elim (cases_lt 0 (a * n / b)) [
      | inl some ↦ (
        a * n / b,
        record {
          some = omega arith;
          within = le_of_mul-le-mul_left {k = b} (omega (arith, f.reached, mul-le-mul_right n m.meets.fraction.within)) h;
          reached = f.reached;
          holds = holds_there x d n block a b (a * n / b) m.meets (at_floor n a b (a * n / b) h f);
        },
      )
      | inr none ↦
          let zero_part : a * n / b ≡ 0 = omega arith in
          let g : IsFloor (a * n) b 0 = rw zero_part at f in
          absurd (free (holds_there x d n block a b 1 m.meets (at_one n a b h m.later hn g)))
    ]

mul-swap : (n s : ℕ) (u : ℤ) → pos n *ℤ (pos s *ℤ u) ≡ pos s *ℤ (pos n *ℤ u)
mul-swap n s u =
    let a = product_is (pos s) u in
    let b = product_is (pos n) u in
    omega (arith, ints, ap (λ (t : ℕ). n * t) a.0, ap (λ (t : ℕ). n * t) a.1, ap (λ (t : ℕ). s * t) b.0, ap (λ (t : ℕ). s * t) b.1)

between_of : (x low high w e : ℤ) (n s : ℕ) → (pos n *ℤ low) ≤ℤ (pos n *ℤ w) → (pos n *ℤ w) ≤ℤ (pos n *ℤ high) →
    pos n *ℤ w ≡ pos n *ℤ x +ℤ pos s *ℤ (e -ℤ x) → IsBetween low high x e s n
between_of x low high w e n s l h q = record { above = rw (← q) l; below = rw (← q) h }

-- on one axis, from a whole distance to the fraction
whole_between : (x u low high : ℤ) (n s : ℕ) → low ≤ℤ (x +ℤ (pos s *ℤ u)) → (x +ℤ (pos s *ℤ u)) ≤ℤ high → IsBetween low high x (x +ℤ (pos n *ℤ u)) s n
whole_between x u low high n s l h =
    let run : (x +ℤ (pos n *ℤ u)) -ℤ x ≡ pos n *ℤ u = omega (arith, ints) in
    let whole_run : pos s *ℤ ((x +ℤ (pos n *ℤ u)) -ℤ x) ≡ pos s *ℤ (pos n *ℤ u) = ap (λ z. pos s *ℤ z) run in
    let spread = mul-add (pos n) x (pos s *ℤ u) in
    between_of x low high (x +ℤ (pos s *ℤ u)) (x +ℤ (pos n *ℤ u)) n s (mul_le n low (x +ℤ (pos s *ℤ u)) l) (mul_le n (x +ℤ (pos s *ℤ u)) high h)
    (spread ∙ ap (λ z. pos n *ℤ x +ℤ z) (mul-swap n s u ∙ sym whole_run))

-- a block in which the place lies at a whole distance is met there
pub meets_whole : (x : ℕ → ℤ) (d : Axis) (n s : ℕ) (block : Block3) → 0 < n → s ≤ n → Holds block (along x d s) → Meets x (along x d n) block s n
meets_whole x d n s block hn hs h = record {
  fraction = record { positive = hn; within = hs };
  on_axis = λ k l. whole_between (x k) (unit d k) (coordinate block.low k) (coordinate block.high k) n s (h.from_low k l) (h.to_high k l);
}

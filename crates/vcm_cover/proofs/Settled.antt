-- Places that lie in blocks or in regions.
use Rattle.std.proofs.Common.{◌≡◌, ℕ, ℤ, pos, ◌<◌, ◌*ℤ◌, ◌+ℤ◌, ◌≤ℤ◌, false, List, [], ◌∷◌, ◌⊎◌, inl, inr, arith}
use Rattle.std.specs.List.{All}
use Rattle.std.proofs.lemmas.Int.{ints, by_lt_z}
use lib.Signed.{◌<ℤ◌}
use Rattle.vcm_spec.specs.declared.workpiece.Block3.{Block3}
use Rattle.vcm_covering.specs.Parting.{Corners}
use Rattle.vcm_covering.specs.Covering.{IsCovered}
use Rattle.vcm_covering.proofs.Apart.{up_scaled, spread}
use Rattle.vcm_boxing.specs.declared.range.Range.{Range}
use Rattle.vcm_boxing.specs.declared.range.Stretch.{Stretch}
use Rattle.vcm_cover.specs.declared.region.Region.{Region}
use Rattle.vcm_cover.specs.Hollows.{LeavesNoHollow, LeadsOut, is_out}
use Rattle.vcm_boxing.specs.Ranges.{IsIn, IsOn, IsNowhere, numbers, stretch}
use Rattle.vcm_cover.specs.inner.Held.{IsFilled, IsHeldIn}
use Rattle.vcm_cover.specs.inner.Regions.{IsInSome, IsFree, IsSettled, IsWayOut, AreWithin}
use Rattle.vcm_boxing.proofs.Inside.{each_axis}
use Rattle.vcm_cover.proofs.Ways.{all_at, out_below, out_above}

pub strict : (s : ℕ) (a b : ℤ) → 0 < s → a <ℤ b → (pos s *ℤ a) <ℤ (pos s *ℤ b)
strict s a b some lt = let le : (a +ℤ pos 1) ≤ℤ b = omega (arith, ints) in omega (arith, ints, up_scaled s (a +ℤ pos 1) b le, spread (pos s) a (pos 1))

pub strictly_above : (s : ℕ) (a b z : ℤ) → 0 < s → a <ℤ b → (pos s *ℤ b) ≤ℤ z → (pos s *ℤ a) <ℤ z
strictly_above s a b z some lt le = omega (arith, ints, strict s a b some lt)

pub strictly_below : (s : ℕ) (a b z : ℤ) → 0 < s → a <ℤ b → z ≤ℤ (pos s *ℤ a) → z <ℤ (pos s *ℤ b)
strictly_below s a b z some lt le = omega (arith, ints, strict s a b some lt)

-- a range that lies in a block
pub filled : (blocks : List Block3) (regions : List Region) (r : Range) → IsFilled blocks r → IsSettled blocks regions r
filled blocks regions r f = record { settled = λ s x some i. inl (f.filled s x i) }

-- a range that lies in a region
pub freed : (blocks : List Block3) (regions : List Region) (r : Range) → IsFree regions r → IsSettled blocks regions r
freed blocks regions r f = record { settled = λ s x some i. inr (f.free s x some i) }

-- a place lies below a coordinate, at it, or above it
pub by_side : {P : Type 0} (z m : ℤ) → (z <ℤ m → P) → (z ≡ m → P) → (m <ℤ z → P) → P
by_side z m lower same upper = by_lt_z z m lower (λ ge. by_lt_z m z upper (λ le. same (omega (arith, ints))))

-- what holds in the three parts of a range, holds in all of it
pub joined : (t : Corners) (blocks : List Block3) (r lower on upper : Range) (axis : ℕ) (at : ℤ)
    → ((s : ℕ) (x : ℕ → ℤ) → IsIn r s x → x axis <ℤ (pos s *ℤ at) → IsIn lower s x)
    → ((s : ℕ) (x : ℕ → ℤ) → IsIn r s x → x axis ≡ pos s *ℤ at → IsIn on s x)
    → ((s : ℕ) (x : ℕ → ℤ) → IsIn r s x → (pos s *ℤ at) <ℤ x axis → IsIn upper s x)
    → IsHeldIn t blocks lower → IsHeldIn t blocks on → IsHeldIn t blocks upper → IsHeldIn t blocks r
joined t blocks r lower on upper axis at f g h a b c = record {
  held = λ s x p i. by_side (x axis) (pos s *ℤ at) (λ lt. a.held s x p (f s x i lt)) (λ e. b.held s x p (g s x i e)) (λ gt. c.held s x p (h s x i gt));
}

-- a range by its three parts
pub joined_space : (blocks : List Block3) (regions : List Region) (r lower on upper : Range) (axis : ℕ) (at : ℤ)
    → ((s : ℕ) (x : ℕ → ℤ) → IsIn r s x → x axis <ℤ (pos s *ℤ at) → IsIn lower s x)
    → ((s : ℕ) (x : ℕ → ℤ) → IsIn r s x → x axis ≡ pos s *ℤ at → IsIn on s x)
    → ((s : ℕ) (x : ℕ → ℤ) → IsIn r s x → (pos s *ℤ at) <ℤ x axis → IsIn upper s x)
    → IsSettled blocks regions lower → IsSettled blocks regions on → IsSettled blocks regions upper → IsSettled blocks regions r
joined_space blocks regions r lower on upper axis at f g h a b c = record {
  settled = λ s x some i. by_side (x axis) (pos s *ℤ at) (λ lt. a.settled s x some (f s x i lt)) (λ e. b.settled s x some (g s x i e)) (λ gt. c.settled s x some (h s x i gt));
}

-- on each axis a place lies below a box or above it, or the place lies in it
by_box : {P : Type 0} (low high : List ℤ) (s : ℕ) (x : ℕ → ℤ) → ((k : ℕ) → k < 3 → x k <ℤ (pos s *ℤ numbers low k) → P) → ((k : ℕ) → k < 3 → (pos s *ℤ numbers high k) <ℤ x k → P)
    → (((k : ℕ) → k < 3 → (pos s *ℤ numbers low k) ≤ℤ x k) → ((k : ℕ) → k < 3 → x k ≤ℤ (pos s *ℤ numbers high k)) → P) → P
by_box {P} low high s x under over within =
    on 0 (omega arith) (λ l0 h0. on 1 (omega arith) (λ l1 h1. on 2 (omega arith) (λ l2 h2.
    within (each_axis (λ (k : ℕ). (pos s *ℤ numbers low k) ≤ℤ x k) l0 l1 l2) (each_axis (λ (k : ℕ). x k ≤ℤ (pos s *ℤ numbers high k)) h0 h1 h2))))
  where
    on : (k : ℕ) → k < 3 → ((pos s *ℤ numbers low k) ≤ℤ x k → x k ≤ℤ (pos s *ℤ numbers high k) → P) → P
    on k lt go = by_lt_z (x k) (pos s *ℤ numbers low k) (under k lt) (λ l. by_lt_z (pos s *ℤ numbers high k) (x k) (over k lt) (λ h. go l h))

out_of_some : (blocks : List Block3) (regions : List Region) → All (IsWayOut blocks) regions → (s : ℕ) (x : ℕ → ℤ) → 0 < s → IsInSome regions s x → LeadsOut blocks s x
out_of_some blocks regions all s x some i = (all_at (IsWayOut blocks) regions all i.index i.region i.stands).leads s x some i.inside

way : (blocks : List Block3) (regions : List Region) → All (IsWayOut blocks) regions → (s : ℕ) (x : ℕ → ℤ) → 0 < s → IsCovered blocks s x ⊎ IsInSome regions s x → IsCovered blocks s x ⊎ LeadsOut blocks s x
way blocks regions all s x some (inl h) = inl h
way blocks regions all s x some (inr i) = inr (out_of_some blocks regions all s x some i)

-- where all blocks lie in a box, each place of which lies in a block or in a region that a way leads out of
pub no_hollow : (blocks : List Block3) (regions : List Region) (low high : List ℤ) (r : Range) → AreWithin blocks low high → All (IsWayOut blocks) regions
    → ((s : ℕ) (x : ℕ → ℤ) → ((k : ℕ) → k < 3 → (pos s *ℤ numbers low k) ≤ℤ x k) → ((k : ℕ) → k < 3 → x k ≤ℤ (pos s *ℤ numbers high k)) → IsIn r s x)
    → IsSettled blocks regions r → LeavesNoHollow blocks
no_hollow blocks regions low high r within ways box settled = λ s x some.
    by_box low high s x (λ k lt h. inr (is_out (out_below blocks k (numbers low k) lt (within.from_low k lt) s x h)))
    (λ k lt h. inr (is_out (out_above blocks k (numbers high k) lt (within.to_high k lt) s x h)))
    (λ l h. way blocks regions ways s x some (settled.settled s x some (box s x l h)))

-- the closed stretch between two corners on an axis
abbrev pub closed_on : List ℤ → List ℤ → ℕ → Stretch
closed_on low high k = record { low = numbers low k; high = numbers high k; open_low = false; open_high = false }

-- a place between two corners lies in the closed range between them
pub in_closed : (low high : List ℤ) (s : ℕ) (x : ℕ → ℤ) → ((k : ℕ) → k < 3 → (pos s *ℤ numbers low k) ≤ℤ x k) → ((k : ℕ) → k < 3 → x k ≤ℤ (pos s *ℤ numbers high k))
    → IsIn (record { 0 = closed_on low high 0 ∷ closed_on low high 1 ∷ closed_on low high 2 ∷ [] }) s x
in_closed low high s x l h = record { on_axis = each_axis (λ (k : ℕ). IsOn (stretch (record { 0 = closed_on low high 0 ∷ closed_on low high 1 ∷ closed_on low high 2 ∷ [] }) k) s (x k)) (on 0 (omega arith)) (on 1 (omega arith)) (on 2 (omega arith)) }
  where
    on : (k : ℕ) → k < 3 → IsOn (closed_on low high k) s (x k)
    on k lt = record { from_low = l k lt; to_high = h k lt; off_low = λ e. absurd (cc); off_high = λ e. absurd (cc) }

-- an empty range
pub nowhere_held : (t : Corners) (blocks : List Block3) (r : Range) → IsNowhere r → IsHeldIn t blocks r
nowhere_held t blocks r n = record { held = λ s x p i. absurd (n.empty s x i) }

pub nowhere_settled : (blocks : List Block3) (regions : List Region) (r : Range) → IsNowhere r → IsSettled blocks regions r
nowhere_settled blocks regions r n = record { settled = λ s x some i. absurd (n.empty s x i) }

-- From the least of two lower ends to the greatest of two upper ones, and slopes.
use Rattle.std.proofs.Common.{◌≡◌, ℤ, pos, ◌≤◌, ◌≤ℤ◌, ◌+ℤ◌, ◌-ℤ◌, ◌*ℤ◌, Some, arith, ap, sym, refl, ◌∙◌, FitsSigned}
use Rattle.std.specs.Prelude.{unsigned_abs}
use Rattle.std.specs.Int.{int_min, int_max}
use Rattle.std.proofs.lemmas.Int.{ints}
use mir.Syntax.{w64, w128}
use Rattle.vcm_hardware.specs.declared.interval.Interval.{Interval}
use Rattle.vcm_hardware.specs.declared.cylinder.Range.{Range}
use Rattle.vcm_hardware.specs.declared.cylinder.Side.{Side}
use Rattle.vcm_hardware.specs.Slabs.{hull, nearest, between, with_room, reach}
use Rattle.vcm_hardware.proofs.Floors.{nearest_within, divided_within}
use Rattle.vcm_hardware.proofs.Spans.{some_room}

pub hull_is : (p q : Interval) (out m k : ℤ) → m ≡ int_min p.low q.low → k ≡ int_max p.high q.high → record { low = m -ℤ out; high = k +ℤ out } ≡ hull p q out
hull_is p q out m k em ek = rw (em, ek) refl

-- ---- slopes

pub over_fits : (over : ℤ) → unsigned_abs over ≤ 2147483648 → FitsSigned w128 (pos 20000000 *ℤ over)
over_fits over p = omega (arith, ints)

pub both_fit : (over under : ℤ) → unsigned_abs over ≤ 2147483648 → pos 1 ≤ℤ under → under ≤ℤ pos 2147483648 → FitsSigned w128 (pos 20000000 *ℤ over +ℤ under)
both_fit over under p some few = omega (arith, ints)

pub twice_fits : (under : ℤ) → pos 1 ≤ℤ under → under ≤ℤ pos 2147483648 → FitsSigned w128 (pos 2 *ℤ under)
twice_fits under some few = omega (arith, ints)

pub nearest_slope : (over under q : ℤ) → unsigned_abs over ≤ 2147483648 → pos 1 ≤ℤ under → q ≡ nearest over under → unsigned_abs q ≤ 21474836480000001
nearest_slope over under q p some e =
    divided_within (pos 20000000 *ℤ over +ℤ under) (pos 2 *ℤ under) q 21474836480000001 (omega (arith, ints, some)) (nearest_within over under p some) e

-- ---- a reach

pub range_in : (l h a b d e : ℤ) → FitsSigned w64 l → FitsSigned w64 h → l ≤ℤ a → a ≤ℤ d → d ≤ℤ e → e ≤ℤ b → b ≤ℤ h → FitsSigned w64 d × FitsSigned w64 e
range_in l h a b d e fl fh p q r s t = (omega (arith, ints), omega (arith, ints))

pub reach_some : (side : Side) (z : Range) (a b : Interval) (l h : ℤ) → l ≡ side.range.low → h ≡ side.range.high → a ≡ between (record { low = l; high = h }) side.first z
    → b ≡ between a side.second z → b.low ≤ℤ b.high → Some (record { low = b.low; high = b.high }) ≡ reach side z
reach_some side z a b l h el eh ea eb le =
    sym (some_room b le)
    ∙ ap with_room
    (eb ∙ ap (λ (x : Interval). between x side.second z)
    (ea ∙ ap (λ (y : ℤ). between (record { low = y; high = h }) side.first z) el ∙ ap (λ (y : ℤ). between (record { low = side.range.low; high = y }) side.first z) eh))

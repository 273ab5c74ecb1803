-- Probes beside a workpiece.
use Rattle.std.specs.Prelude.{ℕ, ◌+◌, ◌&&◌, not, Bool, true, false, List, [], ◌∷◌, pos, negsuc, int_le, Option, Some, None, if◌then◌else◌}
use Rattle.vcm_num.specs.Point.{coordinate, on_each}
use Rattle.vcm_num.specs.declared.point.Point.{Point}
use Rattle.vcm_spec.specs.Workpiece.{Workpiece, is_some_met}
use Rattle.vcm_probe_set.specs.declared.fitting.Unfit.{Unfit}
use Rattle.vcm_probe_set.specs.declared.fitting.Unfit.TheVariants.{LimitsTooFar, HomeNotClear}
use Rattle.vcm_probe_set.specs.Probes.{Probe}

-- whether each coordinate is at most 980 metres from 0, so that no turn puts a tip farther than a kilometre
abbrev pub is_turning_limit : Point → Bool
is_turning_limit p = on_each (λ k. int_le (negsuc 979999999) (coordinate p k) && int_le (coordinate p k) (pos 980000000))

-- whether the tip of a probe, where it has one of its own, meets no block at home
abbrev pub is_tip_clear : Workpiece → Option ℕ → Bool
is_tip_clear part None = true
is_tip_clear part (Some h) = not (is_some_met h part.blocks (coordinate part.bounds.home))

-- a refusal of the probe of this number, unless it is clear
abbrev pub unless_clear : Bool → ℕ → Option Unfit → Option Unfit
unless_clear true n others = others
unless_clear false n others = Some (HomeNotClear n)

-- the first probe whose tip isn't clear at home, this number being that of the first one
abbrev pub first_unclear : Workpiece → ℕ → List Probe → Option Unfit
first_unclear part n [] = None
first_unclear part n (p ∷ ps) = unless_clear (is_tip_clear part p.tip) n (first_unclear part (n + 1) ps)

-- why the probes can't be tried beside a workpiece
abbrev pub why_unfit : Workpiece → List Probe → Option Unfit
why_unfit part ps =
    if is_turning_limit part.bounds.low && is_turning_limit part.bounds.high then first_unclear part 1 ps
    else Some LimitsTooFar

-- Statements about runs of one code beside two workpieces, and about margins. Each is a clause of a law in src/laws.rt.
use Rattle.std.specs.Prelude.{◌≡◌, ℕ, ◌<◌, ◌≤◌, Option, Some, None}
use Rattle.vcm_num.specs.declared.point.Point.{Point}
use Rattle.vcm_spec.specs.declared.stop.Stop.TheVariants.{Ended}
use Rattle.vcm_spec.specs.declared.stop.StopPlace.{StopPlace}
use Rattle.vcm_spec.specs.Workpiece.{Workpiece, IsValid}
use Rattle.vcm_code.specs.declared.code.Code.{Code}
use Rattle.vcm_code.specs.CodeTable.{CodeState}
use Rattle.vcm_code.specs.Valid as codes
use Rattle.vcm_margin.specs.declared.difference.Difference.{Difference}
use Rattle.vcm_margin.specs.declared.difference.Difference.TheVariants.{Stop, Next}
use Rattle.vcm_margin.specs.declared.difference.Margin.{Margin}
use Rattle.vcm_margin.specs.declared.difference.Met.{Met}
use Rattle.vcm_margin.specs.declared.difference.Met.TheVariants.{Home, Behind}
use Rattle.vcm_margin.specs.Alike.{reached, GoAlike}
use Rattle.vcm_margin.specs.Margin.{GoesWith, IsMargin}

-- a state with the probe at another place
abbrev pub moved_to : Point → CodeState → CodeState
moved_to p m = record m { world = record (m.world) { position = p } }

-- the second state is the first one but for the place of the probe: it has the same output lines, variables, frames, settings and features, the same stop,
-- next statement and pairs of loops
abbrev pub ShowTheSame : CodeState → CodeState → Type 0
ShowTheSame a b = b ≡ moved_to b.world.position a

-- where a code goes alike beside two workpieces, its states there are the same but for the place of the probe, at the start and behind each step
abbrev pub AlikeRunsShowTheSame : Type 0
AlikeRunsShowTheSame = (part other : Workpiece) (c : Code) (n : ℕ) → GoAlike part other c n → (k : ℕ) → k ≤ n
    → ShowTheSame (reached part c k) (reached other c k)

-- there is no stop, or it is the program's end
abbrev pub NoneOrEnd : Option StopPlace → Type 0
NoneOrEnd None = Unit {0}
NoneOrEnd (Some p) = p.stop ≡ Ended

-- in so many steps a run meets no stop but the program's end
abbrev pub ComesThrough : Workpiece → Code → ℕ → Type 0
ComesThrough part c n = NoneOrEnd (reached part c n).world.stop

-- where a valid code comes through beside a workpiece, and goes so with a tip of some half width, it does with each half width between that and the own one
abbrev pub GoingAlikeIsMonotone : Type 0
GoingAlikeIsMonotone =
    (part : Workpiece) → IsValid part → (c : Code) → codes.IsValid c → (n : ℕ) → ComesThrough part c n → (h wide : ℕ) → part.bounds.tip ≤ h → h ≤ wide
    → GoesWith part c n wide → GoesWith part c n h

-- so it goes with no greater half width than that of a margin
abbrev pub MarginsAreGreatest : Type 0
MarginsAreGreatest =
    (part : Workpiece) → IsValid part → (c : Code) → codes.IsValid c → (n : ℕ) → ComesThrough part c n → (m : Margin) → IsMargin part c n m
    → (h : ℕ) → m.tip < h → GoesWith part c n h → ⊥

-- and two margins of one run are one
abbrev pub MarginsAreOne : Type 0
MarginsAreOne =
    (part : Workpiece) → IsValid part → (c : Code) → codes.IsValid c → (n : ℕ) → ComesThrough part c n → (m o : Margin) → IsMargin part c n m
    → IsMargin part c n o → m ≡ o

-- a stop, or a feature; not another next statement, and not that there is no stop
abbrev pub IsTellable : Difference → Type 0
IsTellable (Stop None) = ⊥
IsTellable (Next n) = ⊥
IsTellable d = Unit {0}

-- a block at home, or such a thing
abbrev pub IsTold : Met → Type 0
IsTold Home = Unit {0}
IsTold (Behind seen) = IsTellable seen.what

-- what a margin tells is that
abbrev pub MarginsTellFaultsOrPoints : Type 0
MarginsTellFaultsOrPoints =
    (part : Workpiece) (c : Code) (n : ℕ) → ComesThrough part c n → (m : Margin) → IsMargin part c n m → (d : Met) → m.met ≡ Some d → IsTold d

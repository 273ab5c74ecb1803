-- Which probe is on, and where the centre of its tip stands.
use Rattle.std.specs.Prelude.{ℕ, ℤ, pos, ◌+ℤ◌, ◌-ℤ◌, Bool, true, false, ◌&&◌, ◌==◌, List, ◌∷◌, map, slice_get, slice_index_or, Option, Some, None, option_and_then, if◌then◌else◌}
use Rattle.std.specs.List.{position}
use Rattle.std.specs.Ordering.{int_eq}
use Rattle.std.specs.Str.{bytes_eq}
use Rattle.vcm_num.specs.declared.number.Kind.{Kind}
use Rattle.vcm_num.specs.declared.number.Kind.TheVariants as kind
use Rattle.vcm_num.specs.declared.point.Point.{Point}
use Rattle.vcm_num.specs.Point.{coordinate}
use Rattle.vcm_spec.specs.Outcome.{point_of}
use Rattle.vcm_spec.specs.Setup.{Variable}
use Rattle.vcm_spec.specs.Workpiece.{Workpiece}
use Rattle.vcm_spec.specs.World.{World}
use Rattle.vcm_part.specs.Tip.{with_tip}
use Rattle.vcm_probe_set.specs.Probes.{Probe}

-- whether a variable is one of whole numbers
abbrev pub is_whole : Kind → Bool
is_whole kind.Int = true
is_whole _ = false

-- whether a variable is the one that chooses a probe: it has the name, is of whole numbers, and belongs to no macro
abbrev pub is_chooser : List ℕ → Variable → Bool
is_chooser name v = is_whole v.kind && v.expansion == 0 && bytes_eq v.name name

-- its place among the variables, if there is one
abbrev pub chooser : List ℕ → List Variable → Option ℕ
chooser name vs = position (is_chooser name) vs

-- the value of the variable of this place
abbrev pub value_of : World → ℕ → ℤ
value_of w v = slice_index_or w.variables v (pos 0)

-- the probe of a place, if there is one
abbrev pub probe_on : List Probe → Option ℕ → Option Probe
probe_on ps on = option_and_then (slice_get ps) on

-- whether a probe has the number
abbrev pub has_number : ℤ → Option Probe → Bool
has_number z None = false
has_number z (Some p) = int_eq (pos p.number) z

-- whether the probe that is on has it
abbrev pub is_held : List Probe → Option ℕ → ℤ → Bool
is_held ps on z = has_number z (probe_on ps on)

-- the place of the probe that has it, if one has
abbrev pub place_of : List Probe → ℤ → Option ℕ
place_of ps z = position (λ p. int_eq (pos p.number) z) ps

-- the place of the probe that is put on at a number: of the one that has it, unless that is on
abbrev pub put_at : List Probe → Option ℕ → ℤ → Option ℕ
put_at ps on z = if is_held ps on z then None else place_of ps z

-- where the centre of the tip stands once the head has turned: the pivot, which lies so far from the old centre and from the new one, stays
abbrev pub turned_point : Point → Point → Point → Point
turned_point at old new = point_of (λ k. (coordinate at k +ℤ coordinate old k) -ℤ coordinate new k)

-- where it stands with the second probe on behind the first; where none was on, the probe hung there
abbrev pub place_with : Point → Option Probe → Option Probe → Point
place_with at (Some old) (Some new) = turned_point at old.pivot new.pivot
place_with at _ _ = at

-- a workpiece with a tip of a probe's own, if it has one
abbrev pub tipped : Workpiece → Option ℕ → Workpiece
tipped part None = part
tipped part (Some h) = with_tip h part

-- the workpiece with the tip of the probe that is on
abbrev pub part_by : Workpiece → List Probe → Option ℕ → Workpiece
part_by part ps on = tipped part (option_and_then (λ p. p.tip) (probe_on ps on))

-- the workpieces of a run: that of no probe, and that of each
abbrev pub parts_of : Workpiece → List Probe → List Workpiece
parts_of part ps = part ∷ map (λ p. tipped part p.tip) ps

-- What is known behind the steps of a run: which FEAT of each feature was the last one, which FEATs and DOs were carried out, and what is remarked of measurements.
use Rattle.std.specs.Prelude.{ℕ, ◌+◌, nat_eq, Bool, true, false, List, [], ◌∷◌, length, replicate, Option, Some, None}
use Rattle.vcm_num.specs.declared.point.Point.{Point}
use Rattle.vcm_spec.specs.declared.stop.StopPlace.{StopPlace}
use Rattle.vcm_spec.specs.Effect.{at_index}
use Rattle.vcm_spec.specs.Setup.{Tables}
use Rattle.vcm_spec.specs.World.{World}
use Rattle.vcm_code.specs.Code.{Op}
use Rattle.vcm_code.specs.declared.op.Op.TheVariants.{Do}
use Rattle.vcm_way.specs.Tasks.{task_of}
use Rattle.vcm_trace.specs.declared.told.Told.{Told}
use Rattle.vcm_trace.specs.declared.told.Told.TheVariants as told
use Rattle.vcm_trace.specs.Deviations.{comparable}
use Rattle.vcm_trace.specs.Framed.{Frames, FramedStep, put_at}
use Rattle.vcm_trace.specs.Lines.{told_of}
use Rattle.vcm_meant.specs.declared.noted.Feat.{Feat}
use Rattle.vcm_meant.specs.declared.remark.Remark.{Remark}
use Rattle.vcm_meant.specs.declared.seen.Seen.{Seen}
use Rattle.vcm_meant.specs.Measuring.{aim_of, far_from, turned_from, again_if, added}
use Rattle.vcm_meant.specs.Seen.{seen_with}

-- the last FEAT of each feature, the FEATs and the DOs that were carried out, and what is remarked of measurements
pub record Noted : Type 0 where
  pub feats : List (Option Feat)
  pub declared : List Seen
  pub loops : List Seen
  pub remarks : List Remark

-- a FEAT of this line, and whether its feature was measured since
abbrev pub feat : (line : ℕ) → Bool → Feat
feat line is_measured = record { line = line; is_measured = is_measured }

-- before the first step
abbrev pub nothing_noted : Tables → Noted
nothing_noted tables = record { feats = replicate (length tables.features) None; declared = []; loops = []; remarks = [] }

-- with a FEAT of this line
abbrev pub declared_with : Noted → (line feature : ℕ) → Noted
declared_with n line f = record n { feats = put_at n.feats f (Some (feat line false)); declared = seen_with line f false n.declared }

-- what is remarked of a measurement whose feature the FEAT k declared, in the state behind it: first how far its place lies away, then its direction, then that it isn't
-- the first one
abbrev pub measured_remarks : Frames → (line feature : ℕ) → World → Option Point → Feat → List Remark → List Remark
measured_remarks fs line f w aim k rs =
    added (again_if line k.line k.is_measured)
    (added (turned_from line f k.line (comparable (at_index fs f) w.frame (at_index w.nominal f)) (at_index w.actual f))
    (added (far_from line f k.line w.settings.approach (comparable (at_index fs f) w.frame (at_index w.nominal f)) aim) rs))

-- with a measurement of this line, which was given this place, by the last FEAT of its feature, if it had one
abbrev pub measured_by : Noted → Frames → (line feature : ℕ) → World → Option Point → Option Feat → Noted
measured_by n fs line f w aim None = n
measured_by n fs line f w aim (Some k) = record n {
  feats = put_at n.feats f (Some (feat k.line true));
  declared = seen_with k.line f true n.declared;
  remarks = measured_remarks fs line f w aim k n.remarks;
}

-- with a statement of this line that tells this
abbrev pub told_with : Noted → Frames → (line : ℕ) → World → Option Point → Told → Noted
told_with n fs line w aim (told.Declared f) = declared_with n line f
told_with n fs line w aim (told.Measured f) = measured_by n fs line f w aim (at_index n.feats f)
told_with n fs line w aim _ = n

-- the DOs with a statement, by whether the next one is that behind it: a DO that goes on to it has a round
abbrev pub loops_with : List Seen → Op → (line : ℕ) → (straight : Bool) → List Seen
loops_with ss (Do v pair a b c exit) line straight = seen_with line 0 straight ss
loops_with ss op line straight = ss

-- with a DO of this line, by whether the next statement is that behind it
abbrev pub looped_with : Noted → Op → (line : ℕ) → (straight : Bool) → Noted
looped_with n op line straight = record n { loops = loops_with n.loops op line straight }

-- with a statement of this number and line, behind which the statement `next` comes next
abbrev pub done_with : Noted → Frames → Op → (line number next : ℕ) → World → Option Point → Noted
done_with n fs op line number next w aim = told_with (looped_with n op line (nat_eq next (number + 1))) fs line w aim (told_of op)

-- the same of a statement that came to this stop, if it came to one
abbrev pub noted_after : Noted → Frames → Op → (line number next : ℕ) → World → Option Point → Option StopPlace → Noted
noted_after n fs op line number next w aim (Some place) = n
noted_after n fs op line number next w aim None = done_with n fs op line number next w aim

-- with a step, on a machine with this home
abbrev pub noted_with : Point → Noted → FramedStep → Noted
noted_with home n s =
    noted_after n s.frames s.passage.statement.op s.passage.statement.line s.passage.number s.passage.next s.passage.after
    (aim_of (task_of home s.passage.before s.passage.statement.op) s.passage.after.frame) s.passage.after.stop

-- behind these steps
abbrev pub noted_behind : Point → Noted → List FramedStep → Noted
noted_behind home n [] = n
noted_behind home n (s ∷ ss) = noted_behind home (noted_with home n s) ss

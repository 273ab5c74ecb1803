-- The lines of the first contact of a box.
use Rattle.std.specs.Prelude.{ℕ, ◌-◌, List, [], ◌++◌, slice_get, option_map, Option, Some, None, codes}
use Rattle.vcm_spec.specs.declared.workpiece.Block3.{Block3}
use Rattle.vcm_spec.specs.declared.workpiece.Bounds.{Bounds}
use Rattle.vcm_spec.specs.Workpiece.{Workpiece}
use Rattle.vcm_code.specs.Code.{CodeStatement}
use Rattle.vcm_state.specs.Held.{Held}
use Rattle.vcm_boxes.specs.declared.boxes.ProbeBox.{ProbeBox}
use Rattle.vcm_carried.specs.Carried.{spread}
use Rattle.vcm_cause.specs.declared.cause.Obstacle.{Obstacle}
use Rattle.vcm_cause.specs.Behind.{Behind}
use Rattle.vcm_cause.specs.Free.{over, beside}
use Rattle.vcm_naming.specs.Naming.{name_below}
use Rattle.vcm_backtrace.specs.Sources.{Sourced}
use Rattle.vcm_clearance.specs.Printed.{contact_text}
use Rattle.vcm_why.specs.Causes.{point_between, way_line, block_line, free_line}
use Rattle.vcm_why.specs.Reasons.{where_lines, why_lines}
use Rattle.vcm_first_contact.specs.declared.first.FirstContact.{FirstContact}

-- the limits, with a tip without extent
abbrev pub as_point : Bounds → Bounds
as_point l = record { low = l.low; high = l.high; home = l.home; tip = 0 }

-- what a box meets, and where the centre of the tip stands from which on that box is free of it
abbrev pub obstacle_with : Workpiece → Block3 → FirstContact → Block3 → Obstacle
obstacle_with part box f block = record {
  contact = record { at = f.told.contact.at; block = f.told.contact.hit.block; from = f.from; aim = f.to };
  block = block;
  over = over (as_point part.bounds) (spread box block);
  beside = beside (as_point part.bounds) (spread box block) f.from f.to;
}

-- the same, if there is such a block
abbrev pub obstacle_of : Workpiece → Block3 → FirstContact → Option Obstacle
obstacle_of part box f = option_map (obstacle_with part box f) (slice_get part.blocks (f.told.contact.hit.block - 1))

-- where the centre of the tip stands as the box of this name meets a block, and the block
abbrev pub meeting_line : List ℕ → Obstacle → List ℕ
meeting_line name met =
    codes "contact of " ++ (name ++ (point_between (codes " where the tip's centre is at ") met.contact.at (codes ", with ") ++ block_line met))

-- the way, the contact, and where the box is free of the block
abbrev pub obstacle_lines : List ℕ → Obstacle → List ℕ
obstacle_lines name met = way_line met.contact.from met.contact.aim ++ (meeting_line name met ++ free_line met.over met.beside)

-- the same, if there is such a block
abbrev pub obstacle_if : List ℕ → Option Obstacle → List ℕ
obstacle_if name None = []
obstacle_if name (Some met) = obstacle_lines name met

-- the line of the contact, and the name of its block, if that is among these
abbrev pub named_contact : List (List ℕ) → List ℕ → FirstContact → List ℕ
named_contact names name f = contact_text name f.told ++ name_below names (Some f.told.contact.hit.block)

-- what is told of the first contact of the box of this name, behind whose step this is known
abbrev pub first_lines : List (List ℕ) → Option Sourced → List CodeStatement → Held → Behind → (name : List ℕ) → FirstContact → Option Obstacle → List ℕ
first_lines names s ss held b name f met = named_contact names name f ++ (where_lines s ss held b.rounds f.told.number f.told.line ++ obstacle_if name met)

-- the name of a box, if it is there
abbrev pub name_of : Option ProbeBox → List ℕ
name_of (Some b) = b.name
name_of None = []

-- the extent of a box, and what it meets
abbrev pub met_of : Workpiece → Option ProbeBox → FirstContact → Option Obstacle
met_of part (Some b) f = obstacle_of part b.block f
met_of part None f = None

-- that no box meets a block, and why the run stopped where it did
abbrev pub none_lines : List (List ℕ) → Option Sourced → Workpiece → List CodeStatement → Held → (number : ℕ) → Behind → (done : ℕ) → List ℕ
none_lines names s part ss held number b done = codes "no box of the probe meets a block\n" ++ why_lines names s part ss held number b done

-- what is told of a run with this first contact, or with none, where it stands here
abbrev pub told_lines : List (List ℕ) → Option Sourced → Workpiece → List ProbeBox → List CodeStatement → Held → (number : ℕ) → Behind → (done : ℕ) → Option FirstContact → List ℕ
told_lines names s part boxes ss held number b done (Some f) =
    first_lines names s ss held b (name_of (slice_get boxes f.index)) f (met_of part (slice_get boxes f.index) f)
told_lines names s part boxes ss held number b done None = none_lines names s part ss held number b done

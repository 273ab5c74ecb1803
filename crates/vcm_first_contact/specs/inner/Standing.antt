-- What is known while a run is followed.
use Rattle.std.specs.Prelude.{◌≡◌, refl, ℕ, List, flat_map, Option, Some, None}
use Rattle.vcm_num.specs.Point.{coordinate}
use Rattle.vcm_spec.specs.declared.workpiece.Block3.{Block3}
use Rattle.vcm_spec.specs.Workpiece.{Workpiece}
use Rattle.vcm_code.specs.declared.code.Code.{Code}
use Rattle.vcm_boxes.specs.declared.boxes.ProbeBox.{ProbeBox}
use Rattle.vcm_marks.specs.declared.mark.Moment.{Moment}
use Rattle.vcm_steps.specs.declared.fault.Unfinished.{Unfinished}
use Rattle.vcm_steps.specs.declared.fault.Unfinished.TheVariants as faults
use Rattle.vcm_steps.specs.Passages.{Passage}
use Rattle.vcm_way.specs.Gone.{Gone, PlacedWay, placed_ways}
use Rattle.vcm_carried.specs.FirstCarried.{contact_at}
use Rattle.vcm_first_contact.specs.declared.first.Met.{Met as Seen}
use Rattle.vcm_first_contact.specs.declared.first.FirstContact.{FirstContact}
use Rattle.vcm_first_contact.specs.First.{Met, or_else, first_on}
use Rattle.vcm_first_contact.specs.inner.Shares.{shared}
use Rattle.vcm_machine.specs.declared.ran.End.TheVariants.{NoMemory}
use Rattle.vcm_cause.specs.declared.watching.Watched.{Watched}
use Rattle.vcm_cause.specs.Watched.{HasWatched}
use Rattle.vcm_first_contact.specs.Telling.{IsHaltedAfter}

-- a box that meets a block on a way, as the code has it: at the same fraction, with the contact that is told there
pub record IsMetAs (w : Gone) (v : Seen) (m : Met) : Type 0 where
  pub index : v.index ≡ m.index
  pub contact : v.contact ≡ contact_at (coordinate w.from) (coordinate w.to) m.entered
  pub at : shared v.at ≡ m.entered.at

-- the same, if there is one
abbrev pub IsMet : Gone → Option Seen → Option Met → Type 0
IsMet w None None = Unit {0}
IsMet w (Some v) (Some m) = IsMetAs w v m
IsMet w None (Some m) = ⊥
IsMet w (Some v) None = ⊥

-- the first contact of these boxes on a way of a step, if there is one
abbrev pub on_way : List Block3 → List ProbeBox → Moment → Option Gone → Option FirstContact
on_way blocks boxes place None = None
on_way blocks boxes place (Some w) = first_on blocks boxes (record { way = w; step = place.step; number = place.number; line = place.line })

-- the ways of a run's steps
abbrev pub ways_along : Workpiece → List Passage → List PlacedWay
ways_along part ps = flat_map (placed_ways part) ps

-- behind no way nothing more is found
pub or_none : (x : Option FirstContact) → x ≡ or_else x None
or_none None = refl
or_none (Some f) = refl

-- memory was refused before a run or in it
abbrev pub IsHalted : Workpiece → Code → ℕ → Unfinished → Type 0
IsHalted part c n faults.NoMemory = Unit {0}
IsHalted part c n (faults.Memory done) = IsHaltedAfter part c n done
IsHalted part c n f = ⊥

-- a run was watched to its end
pub record IsAmple (part : Workpiece) (c : Code) (n : ℕ) (w : Watched) : Type 0 where
  pub watched : HasWatched part c n w.world w.next w.ran w.progress
  pub ample : w.ran.end ≡ NoMemory → ⊥

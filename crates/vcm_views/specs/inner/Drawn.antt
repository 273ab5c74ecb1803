-- What was drawn of a run.
use Rattle.std.specs.Prelude.{◌≡◌, ℕ, Bool, List, Option}
use Rattle.std.specs.Io.KnownBytes.{Appends, Keeps}
use Rattle.vcm_num.specs.Written.{AppendsFront}
use Rattle.vcm_spec.specs.Workpiece.{Workpiece}
use Rattle.vcm_state.specs.Held.{Held}
use Rattle.vcm_job.specs.Jobs.{status_of}
use Rattle.vcm_job.specs.declared.fault.Fault.{Fault}
use Rattle.vcm_job.specs.declared.fault.InputRefusal.{InputRefusal}
use Rattle.vcm_job.specs.declared.fault.Fault.TheVariants as faults
use Rattle.vcm_way.specs.Ways.{Kept}
use Rattle.vcm_sheet.specs.declared.readings.Reading.{Reading}
use Rattle.vcm_sheet.specs.Filed.{SaidIn}
use Rattle.vcm_views.specs.declared.sheets.Titles.{Titles}
use Rattle.vcm_views.specs.declared.untried.Untried.{Untried}
use Rattle.vcm_views.specs.Views.{picture_of, sheet_said}

-- the picture of a run was written and nothing else, with this exit status
pub record IsDrawn (part : Workpiece) (held : Held) (done : ℕ) (way : Kept) (is_close : Bool) (untried : Untried) (status : ℕ) (old new : Option (List ℕ)) : Type 0 where
  pub status_is : status ≡ status_of held.state.stop
  pub written : Appends old new (picture_of part held done way is_close untried)

-- why it wasn't: memory was refused, and nothing was written; or a write failed, and a front of it was, and not all of it
abbrev pub IsNotDrawn : Workpiece → Held → ℕ → Kept → Bool → Untried → Fault InputRefusal → Option (List ℕ) → Option (List ℕ) → Type 0
IsNotDrawn part held done way is_close untried faults.NoMemory old new = Keeps old new
IsNotDrawn part held done way is_close untried (faults.Write d) old new = AppendsFront old new (picture_of part held done way is_close untried)
IsNotDrawn part held done way is_close untried _ old new = ⊥

-- a sheet of a run was written and nothing else, with this exit status
pub record IsFiled (t : Titles) (part : Workpiece) (held : Held) (done : ℕ) (way : Kept) (readings : List Reading) (status : ℕ) (old new : Option (List ℕ)) : Type 0 where
  pub status_is : status ≡ status_of held.state.stop
  pub sheet : SaidIn (sheet_said t part held done way readings) (Appends old new)

-- why it wasn't: memory was refused, and nothing was written; or a write failed, and a front of such a sheet was, and not all of it
abbrev pub IsNotFiled : Titles → Workpiece → Held → ℕ → Kept → List Reading → Fault InputRefusal → Option (List ℕ) → Option (List ℕ) → Type 0
IsNotFiled t part held done way readings faults.NoMemory old new = Keeps old new
IsNotFiled t part held done way readings (faults.Write d) old new = SaidIn (sheet_said t part held done way readings) (AppendsFront old new)
IsNotFiled t part held done way readings _ old new = ⊥

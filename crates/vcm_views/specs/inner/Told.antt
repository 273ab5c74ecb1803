-- What was told of a run: its margin or its result.
use Rattle.std.specs.Prelude.{◌≡◌, ℕ, nat_eq, List, Option}
use Rattle.std.specs.Io.KnownBytes.{Appends, Keeps}
use Rattle.vcm_num.specs.Written.{AppendsFront}
use Rattle.vcm_spec.specs.Workpiece.{Workpiece}
use Rattle.vcm_code.specs.declared.code.Code.{Code}
use Rattle.vcm_state.specs.Held.{Held}
use Rattle.vcm_job.specs.Jobs.{status_of}
use Rattle.vcm_job.specs.declared.fault.Fault.{Fault}
use Rattle.vcm_job.specs.declared.fault.InputRefusal.{InputRefusal}
use Rattle.vcm_job.specs.declared.fault.Fault.TheVariants as faults
use Rattle.vcm_margin.specs.declared.difference.Margin.{Margin}
use Rattle.vcm_margin.specs.Backtrace.{margin_backtrace}
use Rattle.vcm_backtrace.specs.Sources.{Sourced, IsSourced}
use Rattle.vcm_views.specs.Views.{IsMarginOf, TellsMargin}

-- a margin was written, and nothing else
pub record IsMarginTold (program : Option (List ℕ)) (part : Workpiece) (c : Code) (done : ℕ) (old new : Option (List ℕ)) : Type 0 where
  pub text : List ℕ
  pub told : IsMarginOf program part c done c.tables text
  pub written : Appends old new text

-- a front of it was, and not all of it
pub record IsMarginCutOff (program : Option (List ℕ)) (part : Workpiece) (c : Code) (done : ℕ) (old new : Option (List ℕ)) : Type 0 where
  pub text : List ℕ
  pub told : IsMarginOf program part c done c.tables text
  pub front : AppendsFront old new text

-- why no margin was told: memory was refused, and nothing was written; or a write failed
abbrev pub IsMarginNotTold : Option (List ℕ) → Workpiece → Code → ℕ → Fault InputRefusal → Option (List ℕ) → Option (List ℕ) → Type 0
IsMarginNotTold program part c done faults.NoMemory old new = Keeps old new
IsMarginNotTold program part c done (faults.Write d) old new = IsMarginCutOff program part c done old new
IsMarginNotTold program part c done _ old new = ⊥

-- the backtrace of the statement at which a wider tip meets something else, by the source of this program, if there is one
pub record IsBacktraceTold (program : Option (List ℕ)) (part : Workpiece) (c : Code) (m : Margin) (text : List ℕ) : Type 0 where
  pub source : Option Sourced
  pub is_source : IsSourced program source
  pub text_is : text ≡ margin_backtrace source part c m

-- the margin or the result of a run was written and nothing else, with this exit status
pub record IsTold (program : Option (List ℕ)) (part : Workpiece) (c : Code) (held : Held) (done status : ℕ) (old new : Option (List ℕ)) : Type 0 where
  pub text : List ℕ
  pub told : TellsMargin (nat_eq status 0) program part c held done text
  pub status_is : status ≡ status_of held.state.stop
  pub written : Appends old new text

-- a front of it was, and not all of it
pub record IsToldInPart (program : Option (List ℕ)) (part : Workpiece) (c : Code) (held : Held) (done : ℕ) (old new : Option (List ℕ)) : Type 0 where
  pub text : List ℕ
  pub told : TellsMargin (nat_eq (status_of held.state.stop) 0) program part c held done text
  pub front : AppendsFront old new text

-- why neither was told: memory was refused, and nothing was written; or a write failed
abbrev pub IsNotTold : Option (List ℕ) → Workpiece → Code → Held → ℕ → Fault InputRefusal → Option (List ℕ) → Option (List ℕ) → Type 0
IsNotTold program part c held done faults.NoMemory old new = Keeps old new
IsNotTold program part c held done (faults.Write d) old new = IsToldInPart program part c held done old new
IsNotTold program part c held done _ old new = ⊥

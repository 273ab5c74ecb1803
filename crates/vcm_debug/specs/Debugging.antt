-- What a session is.
use Rattle.std.specs.Prelude.{ℕ, Bool, false, List, length, replicate}
use Rattle.vcm_spec.specs.Workpiece.{Workpiece}
use Rattle.vcm_code.specs.declared.code.Code.{Code}
use Rattle.vcm_code.specs.CodeTable.{CodeState}
use Rattle.vcm_machine.specs.Running.{Running, started, later}

-- A session: the workpiece and the code that it speaks of, how many steps were taken so far, for each statement whether it has a
-- breakpoint, and for each variable whether it is watched
pub record Debugging : Type 0 where
  pub part : Workpiece
  pub code : Code
  pub count : ℕ
  pub breakpoints : List Bool
  pub watches : List Bool

-- a session at the start
abbrev pub opened : Workpiece → Code → Debugging
opened part code = record {
  part = part;
  code = code;
  count = 0;
  breakpoints = replicate (length code.statements) false;
  watches = replicate (length code.tables.variables) false;
}

-- the machine of a code after so many steps
abbrev pub after : Workpiece → Code → ℕ → Running
after part code n = later n (started part code)

-- the machine as the session shows it
abbrev pub shown : Debugging → Running
shown d = after d.part d.code d.count

-- where it stands
abbrev pub now : Debugging → CodeState
now d = (shown d).state

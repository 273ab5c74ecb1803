-- Motions: which command of the debugger each is, and where the session stands afterwards.
use Rattle.std.specs.Prelude.{◌≡◌, ◌⊎◌, ℕ, ◌==◌, ◌||◌, Bool, true, false, Option, Some, None, is_some, Result, Ok, Err, slice_index_or, if◌then◌else◌}
use Rattle.vcm_spec.specs.declared.stop.StopPlace.{StopPlace}
use Rattle.vcm_console.specs.declared.command.Command.{Command}
use Rattle.vcm_console.specs.declared.command.Command.TheVariants as c
use Rattle.vcm_console.specs.declared.reply.Reply.{Reply}
use Rattle.vcm_console.specs.declared.reply.Halted.{Halted}
use Rattle.vcm_debug.specs.Debugging.{Debugging, now}
use Rattle.vcm_debug.specs.Session.{answer, Halts}
use Rattle.vcm_over.specs.Over.{over_from, IsOnWay}
use Rattle.vcm_dap.specs.declared.asking.Motion.{Motion}
use Rattle.vcm_dap.specs.declared.asking.Motion.TheVariants.{Begin, Continue, Step, StepOut, StepBack, Reverse, Pause}
use Rattle.vcm_dap.specs.Adapting.{Wanted}

-- a command, but not at a stop
abbrev pub unless_stopped : Option StopPlace → Command → Option Command
unless_stopped (Some p) what = None
unless_stopped None what = Some what

-- whether the next statement has a breakpoint
abbrev pub is_at_breakpoint : Debugging → Bool
is_at_breakpoint d = slice_index_or d.breakpoints (now d).next false

-- the first motion: so many steps with no stop on the way, or it stands, or a run. A run takes a step at least, and would pass a breakpoint at the next
-- statement
abbrev pub beginning : Wanted → Debugging → Option Command
beginning w d =
    if w.no_debug then Some (c.Step w.steps)
    else (if w.stop_on_entry || is_at_breakpoint d then None else unless_stopped (now d).world.stop (c.Run w.steps))

-- the command that a motion is where the session stands; none where it stays as it is
abbrev pub command_of : Wanted → Debugging → Motion → Option Command
command_of w d Begin = beginning w d
command_of w d Continue = unless_stopped (now d).world.stop (c.Run w.steps)
command_of w d Step = unless_stopped (now d).world.stop (c.Step 1)
command_of w d StepOut = None
command_of w d StepBack = if d.count == 0 then None else Some (c.Back 1)
command_of w d Reverse = Some c.Reverse
command_of w d Pause = None

-- what came of a command, and where the session stands; or of none
abbrev pub Comes : Debugging → Option Command → Debugging → Result (Option Reply) Halted → Type 0
Comes old None new (Ok None) = new ≡ old
Comes old None new _ = ⊥
Comes old (Some what) new (Ok None) = ⊥
Comes old (Some what) new (Ok (Some r)) = record { reply = r; session = new } ≡ answer old what
Comes old (Some what) new (Err h) = Halts old what new h.done

-- where the session stands behind a command, or behind none: where the debugger's answer leaves it, or where memory was refused
abbrev pub Stands : Debugging → Option Command → Debugging → Type 0
Stands old None new = new ≡ old
Stands old (Some what) new = (new ≡ (answer old what).session) ⊎ ((done : ℕ) × Halts old what new done)

-- a step by lines: to where the next statement stands on another source line, or to a stop; or where memory was refused on the way there
abbrev pub GoesOver : Debugging → Debugging → Type 0
GoesOver old new = (new ≡ over_from 1000000 1 old) ⊎ IsOnWay 1 old new

-- whether a motion goes by source lines: a step does, of a producer's text
abbrev pub goes_by_lines : Wanted → Motion → Bool
goes_by_lines w Step = is_some w.told
goes_by_lines w _ = false

-- where the session stands behind a motion that goes by source lines, or not
abbrev pub MovesSo : Bool → Wanted → Debugging → Motion → Debugging → Type 0
MovesSo true w old m new = GoesOver old new
MovesSo false w old m new = Stands old (command_of w old m) new

-- where the session stands behind a motion
abbrev pub IsMoved : Wanted → Debugging → Motion → Debugging → Type 0
IsMoved w old m new = MovesSo (goes_by_lines w m) w old m new

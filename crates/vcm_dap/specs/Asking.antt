-- What the command of a request asks for.
use Rattle.std.specs.Prelude.{ℕ, List, codes, Option, Some, None, if◌then◌else◌, ◌||◌}
use Rattle.std.specs.Str.{bytes_eq}
use Rattle.vcm_dap.specs.declared.asking.Motion.{Motion}
use Rattle.vcm_dap.specs.declared.asking.Motion.TheVariants.{Begin, Continue, Step, StepOut, StepBack, Reverse, Pause}
use Rattle.vcm_dap.specs.declared.asking.Look.{Look}
use Rattle.vcm_dap.specs.declared.asking.Look.TheVariants as l
use Rattle.vcm_dap.specs.declared.asking.Ask.{Ask}
use Rattle.vcm_dap.specs.declared.asking.Ask.TheVariants as a

-- the motion of a name
abbrev pub motion_of : List ℕ → Option Motion
motion_of c =
    if bytes_eq c (codes "configurationDone") then Some Begin
    else (if bytes_eq c (codes "continue") then Some Continue
    else (if bytes_eq c (codes "next") || bytes_eq c (codes "stepIn") then Some Step
    else (if bytes_eq c (codes "stepOut") then Some StepOut
    else (if bytes_eq c (codes "stepBack") then Some StepBack
    else (if bytes_eq c (codes "reverseContinue") then Some Reverse
    else (if bytes_eq c (codes "pause") then Some Pause
    else None))))))

-- what a name asks for that changes nothing, or isn't known
abbrev pub look_of : List ℕ → Look
look_of c =
    if bytes_eq c (codes "initialize") then l.Initialize
    else (if bytes_eq c (codes "launch") then l.Launch
    else (if bytes_eq c (codes "threads") then l.Threads
    else (if bytes_eq c (codes "setExceptionBreakpoints") then l.ExceptionBreakpoints
    else (if bytes_eq c (codes "dataBreakpointInfo") then l.DataBreakpointInfo
    else (if bytes_eq c (codes "stackTrace") then l.StackTrace
    else (if bytes_eq c (codes "scopes") then l.Scopes
    else (if bytes_eq c (codes "variables") then l.Variables
    else (if bytes_eq c (codes "evaluate") then l.Evaluate
    else (if bytes_eq c (codes "exceptionInfo") then l.ExceptionInfo
    else (if bytes_eq c (codes "disconnect") then l.Disconnect
    else l.Unknown))))))))))

-- to move, or else to look
abbrev pub move_or_look : Option Motion → Look → Ask
move_or_look (Some m) look = a.Move m
move_or_look None look = a.Show look

-- what a command asks for
abbrev pub ask_of : List ℕ → Ask
ask_of c =
    if bytes_eq c (codes "setBreakpoints") then a.Breakpoints
    else (if bytes_eq c (codes "setDataBreakpoints") then a.DataBreakpoints
    else move_or_look (motion_of c) (look_of c))

-- Breakpoints that are taken away where a line goes on.
use Rattle.std.specs.Prelude.{ℕ, Bool, true, false, slice_set}
use Rattle.vcm_debug.specs.Debugging.{Debugging}

-- the breakpoint of a statement is taken away, if that is to be
abbrev pub cleared_if : Bool → ℕ → Debugging → Debugging
cleared_if true n d = record d { breakpoints = slice_set d.breakpoints n false }
cleared_if false n d = d

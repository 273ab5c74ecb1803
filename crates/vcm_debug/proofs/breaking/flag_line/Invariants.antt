use Rattle.std.proofs.Common.{◌≡◌, take}
use Rattle.vcm_debug.specs.Session.{flagged}
use Rattle.vcm_debug.proofs.breaking.flag_line.Given as goal

abbrev pub invariant-loop-n : goal.invariant-loop-n
invariant-loop-n l = l.breakpoints ≡ flagged l.line l.is_set (take l.n l.loaded.statements) l.fn.breakpoints

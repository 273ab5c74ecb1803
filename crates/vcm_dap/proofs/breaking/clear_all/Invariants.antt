use Rattle.std.proofs.Common.{◌≡◌}
use Rattle.vcm_dap.proofs.Clearing.{cleared_to}
use Rattle.vcm_dap.proofs.breaking.clear_all.Given as goal

abbrev pub invariant-loop-n : goal.invariant-loop-n
invariant-loop-n g l = l.session ≡ cleared_to l.fn.session l.n

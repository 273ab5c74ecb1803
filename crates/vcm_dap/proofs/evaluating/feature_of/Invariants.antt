use Rattle.std.proofs.Common.{◌≡◌}
use Rattle.vcm_dap.proofs.evaluating.feature_of.Given as goal

abbrev pub invariant-loop-source : goal.invariant-loop-source
invariant-loop-source g l = l.session ≡ l.fn.session

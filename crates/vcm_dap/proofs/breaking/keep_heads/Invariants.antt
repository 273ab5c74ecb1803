use Rattle.std.proofs.Common.{◌≡◌}
use Rattle.vcm_dap.proofs.Thinning.{line_before, thinned_to}
use Rattle.vcm_dap.proofs.breaking.keep_heads.Given as goal

abbrev pub invariant-loop-n : goal.invariant-loop-n
invariant-loop-n g l = record {
  thinned : l.session ≡ thinned_to l.fn.session l.n;
  before : l.before ≡ line_before 0 l.n l.fn.session.code.statements;
}

use Rattle.std.proofs.Common.{◌≡◌, drop}
use Rattle.vcm_dap.specs.Lines.{without_watches}
use Rattle.vcm_dap.proofs.watching.unwatch_all.Given as goal

abbrev pub invariant-loop-i : goal.invariant-loop-i
invariant-loop-i g l = record {
  code : l.session.code ≡ l.fn.session.code;
  count : l.session.count ≡ l.fn.session.count;
  left : without_watches l.session (drop l.i l.fn.session.code.tables.variables) ≡ without_watches l.fn.session l.fn.session.code.tables.variables;
}

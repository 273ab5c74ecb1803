use Rattle.std.proofs.Common.{◌≡◌, drop}
use Rattle.vcm_dap.specs.Lines.{watching_all}
use Rattle.vcm_dap.proofs.watching.watch_all.Given as goal

abbrev pub invariant-loop-variable : goal.invariant-loop-variable
invariant-loop-variable g l = record {
  count : l.session.count ≡ l.fn.session.count;
  left : watching_all l.session (drop l.variable-index l.wanted) ≡ watching_all l.initial.session l.wanted;
}

use Rattle.std.proofs.Common.{◌≡◌, false, drop}
use Rattle.vcm_said.specs.All.{refused_from}
use Rattle.vcm_said.proofs.said.first_refusal.Given as goal

abbrev pub invariant-loop-logical : goal.invariant-loop-logical
invariant-loop-logical l = record {
  left : refused_from false l.lines ≡ refused_from l.own (drop l.logical-index l.lines);
}

use Rattle.std.proofs.Common.{◌≡◌, drop}
use Rattle.vcm_svg.specs.Legend.{last_within}
use Rattle.vcm_svg.proofs.legend.last_within.Given as goal

abbrev pub invariant-loop-bar : goal.invariant-loop-bar
invariant-loop-bar l = record {
  rest : last_within l.fn.most l.best (drop l.bar-index l.bars) ≡ last_within l.fn.most l.fn.first l.bars;
}

use Rattle.std.proofs.Common.{◌≡◌, ◌++◌, drop}
use Rattle.vcm_picture.specs.Names.{all_figure_boxes}
use Rattle.vcm_picture.proofs.names.take_figures.Given as goal

abbrev pub invariant-loop-seen : goal.invariant-loop-seen
invariant-loop-seen l = record {
  boxes : l.taken.items ++ all_figure_boxes (drop l.seen-index l.all) ≡ l.fn.taken.items ++ all_figure_boxes l.all;
}

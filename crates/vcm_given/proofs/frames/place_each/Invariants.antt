use Rattle.std.proofs.Common.{◌≡◌, ◌++◌, drop}
use Rattle.std.specs.List.{flat_map}
use Rattle.vcm_given.specs.Chosen.{placed, on_line}
use Rattle.vcm_given.proofs.frames.place_each.Given as goal

abbrev pub invariant-loop-frame : goal.invariant-loop-frame
invariant-loop-frame l = record {
  left : l.out.items ++ on_line l.line (flat_map placed (drop l.frame-index l.frames)) ≡ l.initial.out.items ++ on_line l.line (flat_map placed l.frames);
}

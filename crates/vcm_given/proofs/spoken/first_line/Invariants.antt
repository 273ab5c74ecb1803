use Rattle.std.proofs.Common.{◌≡◌, drop}
use Rattle.vcm_given.specs.Spoken.{first_line}
use Rattle.vcm_given.proofs.spoken.first_line.Given as goal

abbrev pub invariant-loop-logical : goal.invariant-loop-logical
invariant-loop-logical l = record {
  left : first_line l.name l.actual l.lines ≡ first_line l.name l.actual (drop l.logical-index l.lines);
}

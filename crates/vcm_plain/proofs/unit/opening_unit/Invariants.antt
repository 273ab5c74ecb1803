use Rattle.std.proofs.Common.{◌≡◌, drop}
use Rattle.vcm_plain.specs.Units.{opening_unit}
use Rattle.vcm_plain.proofs.unit.opening_unit.Given as goal

abbrev pub invariant-loop-logical : goal.invariant-loop-logical
invariant-loop-logical l = record {
  left : opening_unit l.lines ≡ opening_unit (drop l.logical-index l.lines);
}

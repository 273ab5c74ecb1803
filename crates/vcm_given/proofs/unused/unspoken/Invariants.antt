use Rattle.std.proofs.Common.{◌≡◌, drop}
use Rattle.vcm_given.specs.Unused.{unspoken}
use Rattle.vcm_given.proofs.unused.unspoken.Given as goal

abbrev pub invariant-loop-name : goal.invariant-loop-name
invariant-loop-name l = record {
  left : unspoken l.lines l.names ≡ unspoken l.lines (drop l.name-index l.names);
}

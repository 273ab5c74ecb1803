use Rattle.std.proofs.Common.{◌≡◌, ◌+◌, ◌*◌, ◌^◌, ◌≤◌, drop}
use Rattle.vcm_num.specs.Literals.{number_after}
use Rattle.vcm_mesh.proofs.number.number_after.Given as goal

abbrev pub invariant-loop-digit : goal.invariant-loop-digit
invariant-loop-digit l = record {
  below : l.number + 24 ≤ 24 * 10 ^ (l.before + l.digit-index);
  same : number_after l.start l.digits ≡ number_after l.number (drop l.digit-index l.digits);
}

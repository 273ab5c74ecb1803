use Rattle.std.proofs.Common.{◌≡◌, drop}
use Rattle.vcm_given.specs.Spoken.{saying_at}
use Rattle.vcm_given.proofs.spoken.saying_at.Given as goal

abbrev pub invariant-loop-one : goal.invariant-loop-one
invariant-loop-one l = record {
  left : saying_at l.line l.all ≡ saying_at l.line (drop l.one-index l.all);
}

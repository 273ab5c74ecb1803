use Rattle.std.proofs.Common.{◌≡◌, drop}
use Rattle.vcm_given.specs.Chosen.{asked_at}
use Rattle.vcm_given.proofs.answers.asked_at.Given as goal

abbrev pub invariant-loop-one : goal.invariant-loop-one
invariant-loop-one l = record {
  left : asked_at l.line l.all ≡ asked_at l.line (drop l.one-index l.all);
}

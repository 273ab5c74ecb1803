use Rattle.vcm_turning.specs.Choosing.{tipped}
use Rattle.vcm_set_clearance.proofs.Collecting.{AreSoFar}
use Rattle.vcm_set_clearance.proofs.parts.parts_of.Given as goal

abbrev pub invariant-loop-probe : goal.invariant-loop-probe
invariant-loop-probe l = AreSoFar (λ p. tipped l.part p.tip) l.probes l.parts.items l.probe-index

use Rattle.vcm_spec.specs.FirstContact.{fraction}
use Rattle.vcm_carried.specs.Carried.{spread}
use Rattle.vcm_carried.proofs.Parts.{IsPart}
use Rattle.vcm_carried.proofs.crossing.crossing.Given as goal

abbrev pub invariant-loop-axis : goal.invariant-loop-axis
invariant-loop-axis l = IsPart (fraction l.way.gone.num l.way.gone.den) (spread l.carried l.block) l.way.from l.way.to l.axis l.stretch

use Rattle.vcm_num.specs.Point.{coordinate}
use Rattle.vcm_spec.specs.FirstContact.{fraction}
use Rattle.vcm_carried.specs.Carried.{Counts}
use Rattle.vcm_carried.proofs.Searching.{IsSoFar}
use Rattle.vcm_carried.proofs.meeting.first_met.Given as goal

abbrev pub invariant-loop-index : goal.invariant-loop-index
invariant-loop-index l =
    IsSoFar l.blocks (Counts l.with_start (fraction l.way.gone.num l.way.gone.den) l.carried (coordinate l.way.from) (coordinate l.way.to)) l.index l.first

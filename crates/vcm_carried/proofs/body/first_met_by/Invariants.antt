use Rattle.std.specs.Prelude.{map}
use Rattle.vcm_num.specs.Point.{coordinate}
use Rattle.vcm_spec.specs.Workpiece.{grown}
use Rattle.vcm_spec.specs.FirstContact.{fraction}
use Rattle.vcm_carried.specs.Bodies.{BodyCounts}
use Rattle.vcm_carried.proofs.Searching.{IsSoFar}
use Rattle.vcm_carried.proofs.body.first_met_by.Given as goal

abbrev pub invariant-loop-index : goal.invariant-loop-index
invariant-loop-index l =
    IsSoFar l.blocks (BodyCounts l.with_start (fraction l.way.gone.num l.way.gone.den) (map (grown l.by) l.body) (coordinate l.way.from) (coordinate l.way.to)) l.index l.first

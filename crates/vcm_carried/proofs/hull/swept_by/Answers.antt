use Rattle.vcm_carried.proofs.Bodies.{all_swept}
use Rattle.vcm_carried.proofs.hull.swept_by.Goals as goal

pub returns-clause-swept : goal.returns-clause-swept
returns-clause-swept c =
    all_swept c.args.by c.in_ok-hull.hull c.swept.result c.args.way.now.from c.args.way.now.to c.args.body.now c.in_ok-hull.ensures.holds
    (rw c.grown.ensures.is at c.swept.ensures)

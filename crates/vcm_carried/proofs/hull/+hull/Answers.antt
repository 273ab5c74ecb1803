use Rattle.vcm_carried.proofs.Bodies.{held_trans}
use Rattle.vcm_carried.proofs.hull.+hull.Goals as goal

pub returns-in-Some-clause-holds : goal.returns-in-Some-clause-holds
returns-in-Some-clause-holds t c =
    rw c.in_ok-first.ensures.cases.0
    (c.around.ensures.one, held_trans c.around.result c.in-Some.other c.in_ok-first.others.now c.around.ensures.other c.in-Some.ensures.holds)

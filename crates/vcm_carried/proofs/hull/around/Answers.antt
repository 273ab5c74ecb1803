use Rattle.std.proofs.Common.{arith}
use Rattle.vcm_spec.proofs.Entries.{below_three}
use Rattle.vcm_carried.proofs.Hulls.{sides_around, holds_one, holds_other}
use Rattle.vcm_carried.proofs.hull.around.Goals as goal

pub returns-clause-is : goal.returns-clause-is
returns-clause-is c =
    below_three _
    (sides_around _ _ _ _ _ _ (c.requires.one 0 (omega arith)) (c.requires.other 0 (omega arith)) c.min.ensures.value c.max.ensures.value)
    (sides_around _ _ _ _ _ _ (c.requires.one 1 (omega arith)) (c.requires.other 1 (omega arith)) c.min-2.ensures.value c.max-2.ensures.value)
    (sides_around _ _ _ _ _ _ (c.requires.one 2 (omega arith)) (c.requires.other 2 (omega arith)) c.min-3.ensures.value c.max-3.ensures.value)

pub returns-clause-one : goal.returns-clause-one
returns-clause-one c =
    below_three _
    (holds_one _ _ _ _ _ _ (c.requires.one 0 (omega arith)) (c.requires.other 0 (omega arith)) c.min.ensures.value c.max.ensures.value)
    (holds_one _ _ _ _ _ _ (c.requires.one 1 (omega arith)) (c.requires.other 1 (omega arith)) c.min-2.ensures.value c.max-2.ensures.value)
    (holds_one _ _ _ _ _ _ (c.requires.one 2 (omega arith)) (c.requires.other 2 (omega arith)) c.min-3.ensures.value c.max-3.ensures.value)

pub returns-clause-other : goal.returns-clause-other
returns-clause-other c =
    below_three _
    (holds_other _ _ _ _ _ _ (c.requires.one 0 (omega arith)) (c.requires.other 0 (omega arith)) c.min.ensures.value c.max.ensures.value)
    (holds_other _ _ _ _ _ _ (c.requires.one 1 (omega arith)) (c.requires.other 1 (omega arith)) c.min-2.ensures.value c.max-2.ensures.value)
    (holds_other _ _ _ _ _ _ (c.requires.one 2 (omega arith)) (c.requires.other 2 (omega arith)) c.min-3.ensures.value c.max-3.ensures.value)

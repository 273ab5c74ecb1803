use Rattle.std.proofs.Common.{arith}
use Rattle.vcm_boxing.proofs.range.is_nowhere.Goals as goal

pub returns-then-is_void : goal.returns-then-is_void
returns-then-is_void c = λ _. record { empty = λ s x i. c.is_void.ensures c.if-is_void.true s (x 0) (i.on_axis 0 (omega arith)) }

pub returns-then-is_void-2 : goal.returns-then-is_void-2
returns-then-is_void-2 c = λ _. record { empty = λ s x i. c.is_void-2.ensures c.if-is_void-2.true s (x 1) (i.on_axis 1 (omega arith)) }

pub returns : goal.returns
returns c = λ e. record { empty = λ s x i. c.is_void-3.ensures e s (x 2) (i.on_axis 2 (omega arith)) }

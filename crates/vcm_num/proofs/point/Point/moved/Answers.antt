use Rattle.std.proofs.Common.{arith, rules}
use Rattle.std.proofs.lemmas.Int.{ints}
use Rattle.vcm_num.specs.Point.{IsNear, coordinate}
use Rattle.vcm_num.proofs.DirectionLemmas.{moved_back}
use Rattle.vcm_num.proofs.point.Point.moved.Goals as goal

pub returns-else-is_forward : goal.returns-else-is_forward
returns-else-is_forward c = λ k l. moved_back c.args.self c.args.toward c.args.distance c.index-axis.result _ c.index-axis.ensures.axis (search rules) (cc)
    (let near : IsNear (coordinate c.args.self c.index-axis.result) = c.requires c.index-axis.result c.index-axis.ensures.below in omega (arith, ints)) k

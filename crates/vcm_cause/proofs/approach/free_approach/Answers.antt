use Rattle.std.proofs.Common.{◌<◌, arith}
use Rattle.vcm_cause.proofs.Unmet.{none_short, none_free, some_free}
use Rattle.vcm_cause.proofs.approach.free_approach.Goals as goal

pub returns-then-way-le1 : goal.returns-then-way-le1
returns-then-way-le1 c = none_short c.args.tip c.args.block.now c.args.way c.if-way-le1.true

pub returns-then-is_free_with : goal.returns-then-is_free_with
returns-then-is_free_with c =
    let l : 1 < c.args.way.distance = (let far = c.if-way-le1.false in omega (arith, far)) in
    some_free c.args.tip c.args.block.now c.args.way l c.is_free_with.result c.is_free_with.ensures c.if-is_free_with.true c.climbed.result c.climbed.ensures

pub returns-else-is_free_with : goal.returns-else-is_free_with
returns-else-is_free_with c = none_free c.args.tip c.args.block.now c.args.way c.is_free_with.result c.is_free_with.ensures c.if-is_free_with.false

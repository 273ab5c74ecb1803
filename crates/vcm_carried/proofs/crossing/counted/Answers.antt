use Rattle.std.proofs.Common.{arith, rules}
use Rattle.vcm_num.specs.Point.{coordinate}
use Rattle.vcm_spec.specs.FirstContact.{fraction}
use Rattle.vcm_spec.proofs.Tips.{block_in_order}
use Rattle.vcm_carried.proofs.Boxes.{box_in_order}
use Rattle.vcm_carried.proofs.Counting.{counts_by, counted_later, counted_never}
use Rattle.vcm_carried.proofs.crossing.counted.Goals as goal

pub returns-in_err-at-clause-missed : goal.returns-in_err-at-clause-missed
returns-in_err-at-clause-missed c =
    let w = c.args.way.now in
    rw c.from_residual.ensures (λ a b m. c.in_err-at.ensures.missed a b
    (counts_by (fraction w.gone.num w.gone.den) c.args.carried.now (coordinate w.from) (coordinate w.to) c.args.block.now c.args.with_start a b m))

pub returns-then-at-gt0-clause-met : goal.returns-then-at-gt0-clause-met
returns-then-at-gt0-clause-met c =
    let w = c.args.way.now in
    counted_later (fraction w.gone.num w.gone.den) c.args.carried.now (coordinate w.from) (coordinate w.to) c.args.block.now
    (box_in_order _ _ c.requires.carried) (block_in_order _ c.requires.block) c.args.with_start _ _ (omega arith) c.in_ok-at.ensures.met

pub returns-else-at-gt0-clause-missed : goal.returns-else-at-gt0-clause-missed
returns-else-at-gt0-clause-missed c =
    let w = c.args.way.now in
    counted_never (fraction w.gone.num w.gone.den) c.args.carried.now (coordinate w.from) (coordinate w.to) c.args.block.now (box_in_order _ _ c.requires.carried) (block_in_order _ c.requires.block)
    c.args.with_start _ _ (search rules) (omega arith) c.in_ok-at.ensures.met

pub returns-then-with_start-clause-met : goal.returns-then-with_start-clause-met
returns-then-with_start-clause-met c = rw c.if-with_start.true c.in_ok-at.ensures.met

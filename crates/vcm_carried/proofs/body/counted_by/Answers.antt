use Rattle.std.proofs.Common.{arith, rules}
use Rattle.std.specs.Prelude.{map}
use Rattle.vcm_num.specs.Point.{coordinate}
use Rattle.vcm_spec.specs.Workpiece.{grown}
use Rattle.vcm_spec.specs.FirstContact.{fraction}
use Rattle.vcm_spec.proofs.Tips.{block_in_order}
use Rattle.vcm_carried.proofs.Bodies.{body_by, body_later, body_never}
use Rattle.vcm_carried.proofs.Widened.{grown_boxes}
use Rattle.vcm_carried.proofs.body.counted_by.Goals as goal

pub returns-in_err-at-clause-missed : goal.returns-in_err-at-clause-missed
returns-in_err-at-clause-missed c =
    let w = c.args.way.now in
    rw c.from_residual.ensures (λ a b m. c.in_err-at.ensures.missed a b
    (body_by (fraction w.gone.num w.gone.den) (map (grown c.args.by) c.args.body.now) (coordinate w.from) (coordinate w.to) c.args.with_start c.args.block.now a b m))

pub returns-then-at-gt0-clause-met : goal.returns-then-at-gt0-clause-met
returns-then-at-gt0-clause-met c =
    let w = c.args.way.now in
    body_later (fraction w.gone.num w.gone.den) (map (grown c.args.by) c.args.body.now) (coordinate w.from) (coordinate w.to) 10050000 c.args.block.now
    (grown_boxes c.args.by c.args.body.now c.requires.by c.requires.body) (block_in_order _ c.requires.block) c.args.with_start _ _ (omega arith) c.in_ok-at.ensures.met

pub returns-else-at-gt0-clause-missed : goal.returns-else-at-gt0-clause-missed
returns-else-at-gt0-clause-missed c =
    let w = c.args.way.now in
    body_never (fraction w.gone.num w.gone.den) (map (grown c.args.by) c.args.body.now) (coordinate w.from) (coordinate w.to) 10050000 c.args.block.now
    (grown_boxes c.args.by c.args.body.now c.requires.by c.requires.body) (block_in_order _ c.requires.block)
    c.args.with_start _ _ (search rules) (omega arith) c.in_ok-at.ensures.met

pub returns-then-with_start-clause-met : goal.returns-then-with_start-clause-met
returns-then-with_start-clause-met c = rw c.if-with_start.true c.in_ok-at.ensures.met

use Rattle.std.proofs.Common.{arith}
use Rattle.vcm_spec.proofs.Entries.{below_three}
use Rattle.vcm_motion.proofs.Lines.{span_grown}
use Rattle.vcm_motion.proofs.area.box_of.Goals as goal

pub returns : goal.returns
returns c =
    let e = c.ends_of-ends.ensures.holds in
    rw (c.lowered.ensures, c.raised.ensures)
    (below_three _ (span_grown c.args.tip _ _ _ _ (e 0 (omega arith))) (span_grown c.args.tip _ _ _ _ (e 1 (omega arith)))
    (span_grown c.args.tip _ _ _ _ (e 2 (omega arith))))

use Rattle.vcm_num.specs.Point.{coordinate}
use Rattle.vcm_motion.proofs.Inside.{reachable}
use Rattle.vcm_motion.proofs.Lines.{forward_line, back_line}
use Rattle.vcm_motion.proofs.area.line_of.Goals as goal

pub lowered-low-requires-clause-at : goal.lowered-low-requires-clause-at
lowered-low-requires-clause-at c = reachable c.args.from c.requires.from

pub raised-high-requires-clause-at : goal.raised-high-requires-clause-at
raised-high-requires-clause-at c = reachable c.args.from c.requires.from

pub returns-then-is_forward : goal.returns-then-is_forward
returns-then-is_forward c =
    rw (c.lowered-low.ensures, c.raised-high.ensures, c.index.ensures.axis) (forward_line c.args.tip c.requires.tip (coordinate c.args.from) c.args.toward (cc))

pub returns-else-is_forward : goal.returns-else-is_forward
returns-else-is_forward c =
    rw (c.lowered-low.ensures, c.raised-high.ensures, c.index-else-is_forward.ensures.axis) (back_line c.args.tip c.requires.tip (coordinate c.args.from) c.args.toward (cc))

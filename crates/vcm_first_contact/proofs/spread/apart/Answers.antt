use Rattle.std.proofs.Common.{arith}
use Rattle.vcm_num.specs.Point.{coordinate}
use Rattle.vcm_first_contact.proofs.Passes.{less_fits, less_read}
use Rattle.vcm_first_contact.proofs.spread.apart.Goals as goal

pub overflow_sub-a : goal.overflow_sub-a
overflow_sub-a c = less_fits _ _ (c.requires.one 0 (omega arith)) (c.requires.other 0 (omega arith))

pub overflow_sub-b : goal.overflow_sub-b
overflow_sub-b c = less_fits _ _ (c.requires.one 1 (omega arith)) (c.requires.other 1 (omega arith))

pub overflow_sub-c : goal.overflow_sub-c
overflow_sub-c c = less_fits _ _ (c.requires.one 2 (omega arith)) (c.requires.other 2 (omega arith))

pub returns : goal.returns
returns c =
    rw (
      less_read (coordinate c.args.one 0) (coordinate c.args.other 0) (c.requires.one 0 (omega arith)) (c.requires.other 0 (omega arith)),
      less_read (coordinate c.args.one 1) (coordinate c.args.other 1) (c.requires.one 1 (omega arith)) (c.requires.other 1 (omega arith)),
      less_read (coordinate c.args.one 2) (coordinate c.args.other 2) (c.requires.one 2 (omega arith)) (c.requires.other 2 (omega arith)),
    ) at c.new.ensures

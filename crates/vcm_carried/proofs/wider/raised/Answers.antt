use Rattle.std.proofs.Common.{arith}
use Rattle.vcm_num.specs.Point.{coordinate}
use Rattle.vcm_motion.proofs.Wide.{raise_is}
use Rattle.vcm_carried.proofs.wider.raised.Goals as goal

pub returns : goal.returns
returns c =
    rw (
      raise_is c.args.by c.requires.by (coordinate c.args.at 0) _ (c.requires.at 0 (omega arith)) c.from-by.ensures,
      raise_is c.args.by c.requires.by (coordinate c.args.at 1) _ (c.requires.at 1 (omega arith)) c.from-by.ensures,
      raise_is c.args.by c.requires.by (coordinate c.args.at 2) _ (c.requires.at 2 (omega arith)) c.from-by.ensures,
    ) at c.new.ensures

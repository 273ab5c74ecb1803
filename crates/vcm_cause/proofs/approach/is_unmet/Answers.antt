use Rattle.std.proofs.Common.{sym}
use Rattle.vcm_num.specs.Point.{coordinate}
use Rattle.vcm_cause.proofs.Unmet.{is_met, is_unmet}
use Rattle.vcm_cause.proofs.approach.is_unmet.Goals as goal

pub returns-in-Some : goal.returns-in-Some
returns-in-Some c =
    sym (is_met c.args.tip (coordinate c.args.from) (coordinate c.args.to) c.args.block.now c.requires.block _ _ c.in-Some.ensures.met)

pub returns-in-None : goal.returns-in-None
returns-in-None c =
    sym (is_unmet c.args.tip (coordinate c.args.from) (coordinate c.args.to) c.args.block.now c.requires.block c.in-None.ensures.missed)

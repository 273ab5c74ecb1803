use Rattle.std.proofs.Common.{◌≡◌, Some, sym, subst, rules}
use Rattle.vcm_num.specs.Point.{coordinate}
use Rattle.vcm_spec.specs.declared.stop.Stop.TheVariants.{Collision}
use Rattle.vcm_spec.specs.declared.words.MovePhase.TheVariants.{Move}
use Rattle.vcm_probe.proofs.Nearness.{within_is_near}
use Rattle.vcm_way.proofs.Ends.{HasMoved, aim_within}
use Rattle.vcm_way.proofs.moving.marks_of_move.Goals as goal

pub meets_block-requires-clause-aim : goal.meets_block-requires-clause-aim
meets_block-requires-clause-aim c =
    let e : c.args.stop ≡ Some (Collision Move c.in-Some-Collision-Move-default.hit) = search rules in
    within_is_near c.args.part.now c.bounds-bounds.ensures.valid c.args.to
    (aim_within c.args.part.now (coordinate c.args.from) (coordinate c.args.to) c.args.stop c.requires.ends (subst HasMoved (sym e) tt))

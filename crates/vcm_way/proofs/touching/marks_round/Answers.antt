use Rattle.std.proofs.Common.{◌≡◌, Some, rules}
use Rattle.vcm_spec.specs.declared.stop.Stop.TheVariants.{Collision}
use Rattle.vcm_spec.specs.declared.words.MovePhase.TheVariants.{Retract}
use Rattle.vcm_way.proofs.Descents.{near_at_hit}
use Rattle.vcm_way.proofs.touching.marks_round.Goals as goal

pub meets_block-requires-clause-aim : goal.meets_block-requires-clause-aim
meets_block-requires-clause-aim c =
    let hit = c.in-Some-Collision-Retract-default.hit in
    let e : c.args.stop ≡ Some (Collision Retract hit) = search rules in
    near_at_hit c.args.retract c.args.stop hit e c.requires.retract

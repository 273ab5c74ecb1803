use Rattle.std.proofs.Common.{◌≡◌, Some, sym, subst, rules}
use Rattle.vcm_spec.specs.declared.stop.Stop.TheVariants.{Collision}
use Rattle.vcm_spec.specs.declared.words.MovePhase.TheVariants.{Approach}
use Rattle.vcm_way.proofs.Descents.{approach_near}
use Rattle.vcm_way.proofs.Ends.{HasAimed}
use Rattle.vcm_way.proofs.touching.marks_of_touch.Goals as goal

pub meets_block-requires-clause-aim : goal.meets_block-requires-clause-aim
meets_block-requires-clause-aim g c =
    let hit = c.in-Some-Collision-Approach-default.hit in
    let e : c.args.stop ≡ Some (Collision Approach hit) = search rules in
    approach_near c.args.blocks.now c.bounds-bounds.ensures.valid c.args.settings c.args.from c.args.measuring.nominal c.args.measuring.toward c.args.stop c.requires.ends
    c.in-Some.aims.approach c.in-Some.aims.end (rw c.requires.tie at c.in-Some.ensures.some) (subst HasAimed (sym e) tt)

use Rattle.std.proofs.Common.{◌∙◌}
use Rattle.vcm_num.specs.Point.{coordinate}
use Rattle.vcm_spec.specs.Touch.{centre_of}
use Rattle.vcm_way.proofs.Descents.{start_near, end_near, retract_near, all_marks}
use Rattle.vcm_way.proofs.touching.marks_of_touched.Goals as goal

pub touch_point-touch-requires : goal.touch_point-touch-requires
touch_point-touch-requires g c =
    start_near c.args.blocks.now c.bounds-bounds.ensures.valid c.args.settings c.args.from c.args.measuring.nominal c.args.measuring.toward c.args.stop c.requires.ends
    c.args.aims.approach c.args.aims.end c.requires.aims c.requires.touched

pub moved-retract-requires : goal.moved-retract-requires
moved-retract-requires g c =
    c.touch_point-touch.ensures.near (centre_of c.args.blocks.now (coordinate c.args.measuring.nominal) c.args.measuring.toward) c.requires.aims
    (end_near c.args.blocks.now c.bounds-bounds.ensures.valid c.args.settings c.args.from c.args.measuring.nominal c.args.measuring.toward c.args.stop c.requires.ends
    c.args.aims.approach c.args.aims.end c.requires.aims c.requires.touched)

pub marks_round-requires-clause-touch : goal.marks_round-requires-clause-touch
marks_round-requires-clause-touch g c =
    c.touch_point-touch.ensures.near (centre_of c.args.blocks.now (coordinate c.args.measuring.nominal) c.args.measuring.toward) c.requires.aims
    (end_near c.args.blocks.now c.bounds-bounds.ensures.valid c.args.settings c.args.from c.args.measuring.nominal c.args.measuring.toward c.args.stop c.requires.ends
    c.args.aims.approach c.args.aims.end c.requires.aims c.requires.touched)

pub marks_round-requires-clause-retract : goal.marks_round-requires-clause-retract
marks_round-requires-clause-retract g c =
    let at = c.touch_point-touch.ensures.is (centre_of c.args.blocks.now (coordinate c.args.measuring.nominal) c.args.measuring.toward) c.requires.aims in
    retract_near c.args.blocks.now c.bounds-bounds.ensures.valid c.args.settings c.args.from c.args.measuring.nominal c.args.measuring.toward c.args.stop c.requires.ends
    c.args.aims.approach c.args.aims.end c.requires.aims c.requires.touched c.touch_point-touch.result c.moved-retract.result (rw c.requires.tie at at)
    (rw c.retract.ensures.value at c.moved-retract.ensures)

pub returns : goal.returns
returns g c =
    let at = c.touch_point-touch.ensures.is (centre_of c.args.blocks.now (coordinate c.args.measuring.nominal) c.args.measuring.toward) c.requires.aims in
    c.marks_round.ensures
    ∙ all_marks c.args.blocks.now c.bounds-bounds.ensures.valid c.args.settings c.args.from c.args.measuring.nominal c.args.measuring.toward c.args.stop c.requires.ends
    c.args.aims.approach c.args.aims.end c.requires.aims c.requires.touched c.touch_point-touch.result c.moved-retract.result (rw c.requires.tie at at)
    (rw c.retract.ensures.value at c.moved-retract.ensures)
    c.args.measuring.feature

use Rattle.std.specs.Prelude.{map}
use Rattle.vcm_num.specs.Point.{coordinate}
use Rattle.vcm_spec.specs.Workpiece.{grown}
use Rattle.vcm_spec.specs.FirstContact.{fraction}
use Rattle.vcm_carried.specs.Carried.{BoxMeetsBy}
use Rattle.vcm_carried.specs.Bodies.{BodyMeetsBy}
use Rattle.vcm_carried.proofs.Bodies.{behind_met, behind_missed, lesser_met}
use Rattle.vcm_carried.proofs.body.+crossing_by.Goals as goal

pub returns-in-None-clause-met : goal.returns-in-None-clause-met
returns-in-None-clause-met t c =
    let w = c.args.way.now in
    let gone = fraction w.gone.num w.gone.den in
    rw c.in_ok-first.ensures.cases.0
    (behind_met (BoxMeetsBy gone (grown c.args.by c.in_ok-first.first.now) (coordinate w.from) (coordinate w.to) c.args.block.now)
    (BodyMeetsBy gone (map (grown c.args.by) c.in_ok-first.others.now) (coordinate w.from) (coordinate w.to) c.args.block.now)
    (rw c.grown.ensures.is at c.in-None.ensures.missed) c.crossing_by-behind.result c.crossing_by-behind.ensures.met)

pub returns-in-None-clause-missed : goal.returns-in-None-clause-missed
returns-in-None-clause-missed t c =
    let w = c.args.way.now in
    let gone = fraction w.gone.num w.gone.den in
    rw c.in_ok-first.ensures.cases.0
    (behind_missed (BoxMeetsBy gone (grown c.args.by c.in_ok-first.first.now) (coordinate w.from) (coordinate w.to) c.args.block.now)
    (BodyMeetsBy gone (map (grown c.args.by) c.in_ok-first.others.now) (coordinate w.from) (coordinate w.to) c.args.block.now)
    (rw c.grown.ensures.is at c.in-None.ensures.missed) c.crossing_by-behind.result c.crossing_by-behind.ensures.missed)

pub returns-in-Some-clause-met : goal.returns-in-Some-clause-met
returns-in-Some-clause-met t c =
    let w = c.args.way.now in
    let gone = fraction w.gone.num w.gone.den in
    rw c.in_ok-first.ensures.cases.0
    (lesser_met (BoxMeetsBy gone (grown c.args.by c.in_ok-first.first.now) (coordinate w.from) (coordinate w.to) c.args.block.now)
    (BodyMeetsBy gone (map (grown c.args.by) c.in_ok-first.others.now) (coordinate w.from) (coordinate w.to) c.args.block.now)
    c.in-Some.at (rw c.grown.ensures.is at c.in-Some.ensures.met) c.crossing_by-behind.result c.crossing_by-behind.ensures.met c.crossing_by-behind.ensures.missed
    c.lesser.result c.lesser.ensures)

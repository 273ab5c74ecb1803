use Rattle.std.proofs.Common.{◌≡◌, true, rules}
use Rattle.vcm_num.specs.Point.{coordinate}
use Rattle.vcm_spec.specs.Workpiece.{is_within}
use Rattle.vcm_probe.proofs.Nearness.{within_is_near, end_is_near}
use Rattle.vcm_probe.proofs.retreat.retreat.Goals as goal

pub retract_hit-requires-clause-end : goal.retract_hit-requires-clause-end
retract_hit-requires-clause-end g c =
    let within : is_within (g.P.Part.part c.args.part.now).bounds (coordinate c.moved-retract.result) ≡ true = cc (c.bounds.ensures, c.is_within.ensures, c.if-not-is_within.false) in
    end_is_near (g.P.Part.part c.args.part.now) (g.met.P.Part.valid c.args.part.now) c.moved-retract.result _ c.moved-retract.ensures within

pub returns-in-None-clause-near : goal.returns-in-None-clause-near
returns-in-None-clause-near g c =
    let within : is_within (g.P.Part.part c.args.part.now).bounds (coordinate c.moved-retract.result) ≡ true = cc (c.bounds.ensures, c.is_within.ensures, c.if-not-is_within.false) in
    within_is_near (g.P.Part.part c.args.part.now) (g.met.P.Part.valid c.args.part.now) c.moved-retract.result within

pub returns-in-None-clause-answer : goal.returns-in-None-clause-answer
returns-in-None-clause-answer g c = search rules

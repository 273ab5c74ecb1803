use Rattle.std.proofs.Common.{◌≡◌, true, rules}
use Rattle.vcm_num.specs.Point.{coordinate}
use Rattle.vcm_spec.specs.Workpiece.{is_within}
use Rattle.vcm_probe.proofs.Nearness.{within_is_near}
use Rattle.vcm_probe.proofs.touching.approach_freely.Goals as goal

pub contact_of-requires-clause-to : goal.contact_of-requires-clause-to
contact_of-requires-clause-to g c =
    let within : is_within (g.P.Part.part c.args.part.now).bounds (coordinate c.args.to) ≡ true = cc (c.bounds.ensures, c.is_within.ensures, c.if-not-is_within.false) in
    within_is_near (g.P.Part.part c.args.part.now) (g.met.P.Part.valid c.args.part.now) c.args.to within

pub returns-in-None-clause-near : goal.returns-in-None-clause-near
returns-in-None-clause-near g c =
    let within : is_within (g.P.Part.part c.args.part.now).bounds (coordinate c.args.to) ≡ true = cc (c.bounds.ensures, c.is_within.ensures, c.if-not-is_within.false) in
    within_is_near (g.P.Part.part c.args.part.now) (g.met.P.Part.valid c.args.part.now) c.args.to within

pub returns-in-Some-clause-answer : goal.returns-in-Some-clause-answer
returns-in-Some-clause-answer g c = search rules

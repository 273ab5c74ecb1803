use Rattle.std.proofs.Common.{None}
use Rattle.vcm_turning.proofs.Hanging.{hangs_turned, near_there, hangs_there}
use Rattle.vcm_turning.proofs.choosing.place_with.Goals as goal

pub returns-in-None-clause-hangs : goal.returns-in-None-clause-hangs
returns-in-None-clause-hangs c =
    let valid = c.pivot-pivot.ensures.valid in hangs_turned c.args.new.now valid.pivot c.args.at None (rw c.in-None.is at c.requires.hangs)

pub returns-in-Some-clause-near : goal.returns-in-Some-clause-near
returns-in-Some-clause-near c =
    let valid = c.pivot-pivot.ensures.valid in
    near_there c.args.new.now c.in-Some.old.now valid.pivot c.args.at c.turned_point.result c.pivot.result c.pivot-pivot.result c.turned_point.ensures
    c.pivot.ensures.pivot c.pivot-pivot.ensures.pivot (rw c.in-Some.is at c.requires.hangs)

pub returns-in-Some-clause-hangs : goal.returns-in-Some-clause-hangs
returns-in-Some-clause-hangs c =
    let valid = c.pivot-pivot.ensures.valid in
    hangs_there c.args.new.now c.in-Some.old.now valid.pivot c.args.at c.turned_point.result c.pivot.result c.pivot-pivot.result c.turned_point.ensures
    c.pivot.ensures.pivot c.pivot-pivot.ensures.pivot (rw c.in-Some.is at c.requires.hangs)

use Rattle.vcm_margin.proofs.Keeping.{kept_of}
use Rattle.vcm_margin.proofs.widening.compare_own.Goals as goal

pub returns-in-Some-clause-differ : goal.returns-in-Some-clause-differ
returns-in-Some-clause-differ g c =
    let replay = c.replay-replay.ensures in
    c.compare.ensures.differ (g.P.Part.part c.args.own.now)
    (kept_of _ _ _ c.in-Some.trail _ _ _ _ replay.nexts replay.points replay.running replay.stop (rw c.in-Some.is at c.requires.trail))

pub returns-in-Some-clause-alike : goal.returns-in-Some-clause-alike
returns-in-Some-clause-alike g c =
    let replay = c.replay-replay.ensures in
    c.compare.ensures.alike (g.P.Part.part c.args.own.now)
    (kept_of _ _ _ c.in-Some.trail _ _ _ _ replay.nexts replay.points replay.running replay.stop (rw c.in-Some.is at c.requires.trail))

pub returns-in_ok-machine-in-None-clause-differ : goal.returns-in_ok-machine-in-None-clause-differ
returns-in_ok-machine-in-None-clause-differ g c = c.compare-in-None.ensures.differ (g.P.Part.part c.args.own.now) c.in_ok-machine-in-None.ensures

pub returns-in_ok-machine-in-None-clause-alike : goal.returns-in_ok-machine-in-None-clause-alike
returns-in_ok-machine-in-None-clause-alike g c = c.compare-in-None.ensures.alike (g.P.Part.part c.args.own.now) c.in_ok-machine-in-None.ensures

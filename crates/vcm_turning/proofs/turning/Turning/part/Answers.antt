use Rattle.vcm_turning.proofs.Started.{part_there}
use Rattle.vcm_turning.proofs.turning.Turning.part.Goals as goal

pub returns-in-Some : goal.returns-in-Some
returns-in-Some g c =
    let m = c.self.inside in
    let i = c.self.invariant in
    rw (← c.self.view_is) (part_there g.P.Part.part m.blocks.now m.parts.now m.set.now.probes m.each.now c.in-Some.place c.index-self-place.result m.on i.2 i.1 c.in-Some.is
    (rw c.in-Some.is at i.8))

use Rattle.std.specs.Prelude.{OnOk}
use Rattle.vcm_way.specs.Gone.{placed_at}
use Rattle.vcm_way.proofs.Stepped.{on_ok_then}
use Rattle.vcm_clearance.proofs.Tried.{first_of}
use Rattle.std.proofs.Common.{refl}
use Rattle.vcm_set_clearance.specs.Events.{ways_with}
use Rattle.vcm_set_clearance.specs.inner.Gathering.{HasAdded}
use Rattle.vcm_set_clearance.proofs.Adding.{ways_more}
use Rattle.vcm_set_clearance.proofs.gathering.+add_ways.Goals as goal

pub returns-in-Ok : goal.returns-in-Ok
returns-in-Ok t c =
    let first = c.args.to.now.is_first in
    let old = c.args.to.now.events.items in
    let mid = c.add_way.new.to in
    let new = c.add_ways-in-Ok.new.to in
    let r = c.add_ways-in-Ok.result in
    first_of c.args.blocks.now c.args.marks.now c.in-Some.behind.now _ c.in-Some.ensures.cases.0 c.in-Some-first_way.gone c.in-Some-first_way.ensures
    (λ gs. OnOk r (HasAdded first old new.events.items new.is_first (ways_with c.args.probe first (placed_at c.args.place gs))))
    (λ w same. on_ok_then r _ _ (λ rest. ways_more c.args.probe c.args.place first mid.is_first new.is_first old mid.events.items new.events.items w _
    (c.in-Ok.ensures _ (record { way = same; step = refl; number = refl; line = refl })) rest) c.add_ways-in-Ok.ensures)

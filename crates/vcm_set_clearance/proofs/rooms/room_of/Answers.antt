use Rattle.std.proofs.Common.{[], ◌∷◌, sym, subst}
use Rattle.vcm_clearance.specs.Rooms.{IsRoom}
use Rattle.vcm_set_clearance.specs.Events.{ways_by}
use Rattle.vcm_set_clearance.proofs.Seeing.{one_seen, by_more}
use Rattle.vcm_set_clearance.proofs.Sizes.{boxes_of}
use Rattle.vcm_set_clearance.proofs.rooms.room_of.Goals as goal

pub next_of-room-requires : goal.next_of-room-requires
next_of-room-requires c = rw c.blocks-body.ensures.blocks (boxes_of c.args.body.now.blocks c.blocks-body.ensures.valid.each)

pub loop-event-preserved : goal.loop-event-preserved
loop-event-preserved c all are =
    let blocks = c.args.blocks.now.blocks in
    let body = c.blocks-body.result.now in
    one_seen (λ hs. IsRoom blocks body (ways_by c.args.probe hs) c.loop-event.room) (λ hs. IsRoom blocks body (ways_by c.args.probe hs) c.next_of-room.result) c.args.events.now c.loop-event.event-index all
    c.event-item.result c.loop-event-test.true (sym c.event-item.is)
    (λ before h is k. subst (λ l. IsRoom blocks body l c.next_of-room.result) (sym (by_more c.args.probe before (h ∷ []))) (c.next_of-room.ensures (ways_by c.args.probe before) h is k)) (c.loop-event.invariant all are)

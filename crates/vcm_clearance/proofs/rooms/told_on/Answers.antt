use Rattle.vcm_clearance.proofs.Roominess.{room_clear, clear_told}
use Rattle.vcm_clearance.proofs.rooms.told_on.Goals as goal

pub returns-in-Clear : goal.returns-in-Clear
returns-in-Clear c ws p vs placed room =
    let body = c.args.body.now in
    let blocks = c.args.blocks.now.blocks in
    clear_told blocks body 10000000 c.requires c.bounds-bounds.ensures.valid.each c.in-Clear.field-0 ws p vs
    (room_clear blocks body c.requires c.bounds-bounds.ensures.valid.each _ c.in-Clear.field-0 c.in-Clear.field-1 (rw c.in-Clear.is at room)) c.args.is_first

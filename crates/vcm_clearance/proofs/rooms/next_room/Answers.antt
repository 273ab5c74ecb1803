use Rattle.vcm_clearance.proofs.rooms.next_room.Goals as goal

pub returns-else-by-gt-MOST_ROOM : goal.returns-else-by-gt-MOST_ROOM
returns-else-by-gt-MOST_ROOM c ws p placed room = c.next_clear.ensures ws p placed (rw c.in-Clear.is at room)

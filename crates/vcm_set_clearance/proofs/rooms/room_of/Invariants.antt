use Rattle.std.proofs.Common.{List}
use Rattle.vcm_clearance.specs.Rooms.{IsRoom}
use Rattle.vcm_set_clearance.specs.Events.{Happening, AreEvents, ways_by}
use Rattle.vcm_set_clearance.proofs.Seeing.{IsBehind}
use Rattle.vcm_set_clearance.proofs.rooms.room_of.Given as goal

abbrev pub invariant-loop-event : goal.invariant-loop-event
invariant-loop-event l = (all : List Happening) → AreEvents l.events all → IsBehind (λ hs. IsRoom l.blocks.blocks l.body (ways_by l.probe hs) l.room) l.events l.event-index all

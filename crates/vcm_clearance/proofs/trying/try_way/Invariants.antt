use Rattle.std.proofs.Common.{List}
use Rattle.vcm_naming.specs.Pages.{page}
use Rattle.vcm_way.specs.Gone.{PlacedWay}
use Rattle.vcm_clearance.specs.Contacts.{IsPlaced}
use Rattle.vcm_clearance.specs.Rooms.{AreRooms}
use Rattle.vcm_clearance.specs.inner.Here.{here_text}
use Rattle.vcm_clearance.specs.inner.Following.{AreTried, IsKeptOn}
use Rattle.vcm_clearance.proofs.trying.try_way.Given as goal

abbrev pub invariant-loop-index : goal.invariant-loop-index
invariant-loop-index g l = (ws : List PlacedWay) (p : PlacedWay) → IsPlaced l.here.place l.gone p → AreRooms l.blocks.blocks l.boxes ws l.fn.rooms.items
    → AreTried (here_text l.here) l.blocks.blocks l.boxes l.is_first ws p l.index l.rooms.items (page (g.W.Write.contents l.fn.writer) l.fn.names)
    (page (g.W.Write.contents l.writer) l.names) × IsKeptOn l.here l.fn.rooms.items l.fn.kept.items l.rooms.items l.kept.items

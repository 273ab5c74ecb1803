use Rattle.std.proofs.Common.{sym, ◌∙◌}
use Rattle.vcm_set_clearance.specs.Swings.{standing}
use Rattle.vcm_set_clearance.proofs.Seeing.{next_turn}
use Rattle.vcm_set_clearance.proofs.rooms.next_swing.Goals as goal

pub returns-then-is_turn : goal.returns-then-is_turn
returns-then-is_turn c ws h is room =
    next_turn c.args.blocks.now.blocks c.args.body.now c.args.probes.now c.in-Turn.change h (rw c.in-Turn.is at is) (sym c.is_turn.ensures ∙ c.if-is_turn.true) ws
    c.next_room.result (λ ch at. c.next_room.ensures ws (standing ch) (c.standing.ensures ch at) room)

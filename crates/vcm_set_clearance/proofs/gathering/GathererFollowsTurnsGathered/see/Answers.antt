use Rattle.std.proofs.Common.{sym, ap, ◌∙◌, subst}
use Rattle.vcm_way.specs.Steps.{TaskEnds}
use Rattle.vcm_way.specs.Ways.{reason}
use Rattle.vcm_way.proofs.Stepped.{on_ok_then}
use Rattle.vcm_turning.specs.Choosing.{part_by}
use Rattle.vcm_turning.specs.Following.{told_step}
use Rattle.vcm_set_clearance.specs.Events.{change_with, change_at, ways_at}
use Rattle.vcm_set_clearance.specs.inner.Gathering.{HasAdded}
use Rattle.vcm_set_clearance.proofs.Adding.{added_more, gathered_more}
use Rattle.vcm_set_clearance.proofs.Stepping.{turned_ends, put_there, put_hangs, ways_are}
use Rattle.vcm_set_clearance.proofs.gathering.GathererFollowsTurnsGathered.see.Goals as goal

pub add_step-requires-clause-ends : goal.add_step-requires-clause-ends
add_step-requires-clause-ends g c =
    let part = c.args.self.now.blocks.now in
    let ps = c.args.self.now.probes.now in
    let b = c.args.before in
    let fit = c.requires.is_next.fit in
    subst (TaskEnds (part_by part ps c.args.on) b.position b.settings b.task) (sym (c.reason.ensures ∙ ap reason c.stop.ensures))
    (turned_ends _ b c.args.on c.args.statement.now c.args.turn c.args.world.now.state part ps c.requires fit.2 fit.3)

pub add_turn-requires-clause-there : goal.add_turn-requires-clause-there
add_turn-requires-clause-there g c =
    let fit = c.requires.is_next.fit in
    put_there _ c.args.before c.args.on c.args.statement.now c.args.turn c.args.world.now.state c.args.self.now.blocks.now c.args.self.now.probes.now c.requires fit.2 fit.3

pub add_turn-requires-clause-hangs : goal.add_turn-requires-clause-hangs
add_turn-requires-clause-hangs g c =
    let fit = c.requires.is_next.fit in
    put_hangs _ c.args.before c.args.on c.args.statement.now c.args.turn c.args.world.now.state c.args.self.now.blocks.now c.args.self.now.probes.now c.requires fit.2 fit.3
    c.near_position-stands.result c.near_position-stands.ensures.is

pub returns-in-Ok-clause-ok : goal.returns-in-Ok-clause-ok
returns-in-Ok-clause-ok g c =
    let part = c.args.self.now.blocks.now in
    let ps = c.args.self.now.probes.now in
    let b = c.args.before in
    let s = c.args.statement.now in
    let after = c.args.world.now.state in
    let old = c.args.to.now in
    let mid = c.add_step.new.to in
    let new = c.add_turn.new.to in
    on_ok_then c.add_turn.result _ _ (λ turned. λ w from ss looked has.
    let step = told_step c.args.count c.args.number s w after c.args._next c.args.on c.args.turn in
    let ways = ways_are part ps old.is_first b s w after looked c.args.count c.args.number c.args._next c.args.turn c.reason.result
    (c.reason.ensures ∙ ap reason c.stop.ensures) c.args.on c.args.on in
    let here = subst (HasAdded old.is_first old.events.items mid.events.items mid.is_first) ways c.in-Ok.ensures in
    let there = subst (λ a. HasAdded mid.is_first mid.events.items new.events.items new.is_first (change_with ps (record { step = c.args.count; number = c.args.number; line = s.line }) c.args.on c.args.turn.stood a c.args.turn.put))
    c.near_position-stands.ensures.is turned in
    gathered_more part ps from.is_first old.is_first new.is_first from.events.items old.events.items new.events.items ss step has
    (added_more old.is_first mid.is_first new.is_first old.events.items mid.events.items new.events.items (ways_at part ps old.is_first step c.args.on) (change_at ps step) here there)) c.add_turn.ensures

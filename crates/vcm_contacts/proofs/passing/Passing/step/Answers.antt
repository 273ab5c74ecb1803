use Rattle.std.proofs.Common.{◌≡◌, ◌∙◌, None, ap}
use Rattle.std.specs.Prelude.{Err}
use Rattle.vcm_machine.proofs.Codes.{same_at}
use Rattle.vcm_machine.proofs.StepLemmas.{fits, range_is, goes_below, wants}
use Rattle.vcm_contacts.proofs.Steps.{stopping, went_on, met_at}
use Rattle.vcm_contacts.proofs.passing.Passing.step.Goals as goal

pub carry_out-requires-clause-operands : goal.carry_out-requires-clause-operands
carry_out-requires-clause-operands g c =
    let m = c.self.inside in
    let i = c.self.invariant in
    let b = c.operands-word.ensures in
    let fit = fits m.blocks.now m.loaded.now m.world m.next m.pairs i.1 i.2 b.0 b.1 in
    let range = range_is m.blocks.now m.loaded.now m.world m.next m.pairs i.1 i.2 b.0 b.1 in
    (b.0.op, b.2.1, rw b.2.3 at b.2.2, (fit, range))

pub invariant_of-self : goal.invariant_of-self
invariant_of-self g c =
    let m = c.self.inside in
    let i = c.self.invariant in
    let b = c.operands-word.ensures in
    let s = b.0 in
    let none : m.world.state.stop ≡ None = rw (← c.self.view_is) at c.requires in
    let h = rw (c.in-Ok.next-is, i.0) at (c.in-Ok.ensures.gone s.line s.op b.2.1 (rw b.2.3 at b.2.2)) in
    let below = goes_below m.blocks.now m.loaded.now m.world m.next m.pairs i.1 i.2 s b.1 none c.carry_out.new.world.state c.in-Ok.next c.carry_out.new.pairs h in
    (i.0, c.in-Ok.ensures.tables ∙ i.1, i.2, below)

pub returns-in-Ok-clause-ok : goal.returns-in-Ok-clause-ok
returns-in-Ok-clause-ok g c =
    let m = c.self.inside in
    let i = c.self.invariant in
    let b = c.operands-word.ensures in
    let s = b.0 in
    let none : m.world.state.stop ≡ None = rw (← c.self.view_is) at c.requires in
    let h = rw (c.in-Ok.next-is, i.0) at (c.in-Ok.ensures.gone s.line s.op b.2.1 (rw b.2.3 at b.2.2)) in
    rw (← c.self.view_is) (went_on m.blocks.now m.loaded.now m.world m.next m.pairs i.1 i.2 s b.1 none c.carry_out.new.world.state c.in-Ok.next c.carry_out.new.pairs h c.in-Ok.ensures.stop)

pub meet-requires : goal.meet-requires
meet-requires g c =
    let m = c.self.inside in
    let i = c.self.invariant in
    let b = c.operands-word.ensures in
    let s = b.0 in
    let none : m.world.state.stop ≡ None = rw (← c.self.view_is) at c.requires in
    let h = rw (c.in-Err-Stop.field-0-is, i.0) at (c.in-Err-Stop.ensures.gone s.line s.op b.2.1 (rw b.2.3 at b.2.2)) in (
      s,
      record {
        stands = b.1;
        ends = rw h.1 (stopping m.blocks.now m.loaded.now m.world m.next m.pairs i.1 i.2 s b.1 none c.carry_out.new.world.state c.in-Err-Stop.stop c.carry_out.new.pairs h);
      },
    )

pub returns-in-Err-Stop-clause-ok : goal.returns-in-Err-Stop-clause-ok
returns-in-Err-Stop-clause-ok g c =
    let m = c.self.inside in
    let i = c.self.invariant in
    let b = c.operands-word.ensures in
    let s = b.0 in
    let none : m.world.state.stop ≡ None = rw (← c.self.view_is) at c.requires in
    let h = rw (c.in-Err-Stop.field-0-is, i.0) at (c.in-Err-Stop.ensures.gone s.line s.op b.2.1 (rw b.2.3 at b.2.2)) in
    let l = c.meet.ensures in
    rw (← c.self.view_is)
    (met_at m.blocks.now m.loaded.now m.world m.next m.pairs i.1 i.2 s b.1 none c.carry_out.new.world.state c.in-Err-Stop.stop c.carry_out.new.pairs h c.meet.result c.meet.new.self
    (rw (h.1, h.2, same_at m.loaded.now.statements m.next l.0 s l.1 b.1) at l.2))

pub returns-in-Err-NoMemory-clause-err : goal.returns-in-Err-NoMemory-clause-err
returns-in-Err-NoMemory-clause-err g c =
    let m = c.self.inside in
    let i = c.self.invariant in
    let b = c.operands-word.ensures in
    let s = b.0 in
    let none : m.world.state.stop ≡ None = rw (← c.self.view_is) at c.requires in
    let h = rw (c.in-Err-NoMemory.field-0-is, i.0) at (c.in-Err-NoMemory.ensures.gone s.line s.op b.2.1 (rw b.2.3 at b.2.2)) in
    rw (← c.self.view_is) (wants m.blocks.now m.loaded.now m.world m.next m.pairs i.1 i.2 s b.1 none c.carry_out.new.world.state c.carry_out.new.pairs h
    (c.in-Err-NoMemory.ensures.memory (ap Err c.in-Err-NoMemory.field-0-is) s.op b.2.1 (rw b.2.3 at b.2.2)))

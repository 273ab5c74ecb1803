use Rattle.std.proofs.Common.{◌≡◌, ◌∙◌, None, sym, ap, subst}
use Rattle.std.specs.Prelude.{Err}
use Rattle.vcm_spec.specs.Rests.{Rests}
use Rattle.vcm_code.specs.Code.{CodeStatement}
use Rattle.vcm_machine.proofs.Codes.{same_at}
use Rattle.vcm_machine.proofs.RestsAlong.{later_rests}
use Rattle.vcm_machine.proofs.StepLemmas.{fits, range_is, goes, goes_below, stops, wants}
use Rattle.vcm_machine.proofs.machine.Machine.go_on.Goals as goal

pub carry_out-requires-clause-operands : goal.carry_out-requires-clause-operands
carry_out-requires-clause-operands g c =
    let m = c.self.inside in
    let i = c.self.invariant in
    let b = c.operands-word.ensures in
    let fit = fits (g.P.Part.part m.part.now) m.loaded.now m.world m.next m.pairs i.0 i.1 b.0 b.1 in
    let range = range_is (g.P.Part.part m.part.now) m.loaded.now m.world m.next m.pairs i.0 i.1 b.0 b.1 in
    (b.0.op, b.2.1, rw b.2.3 at b.2.2, (fit, range))

pub invariant_of-self : goal.invariant_of-self
invariant_of-self g c =
    let m = c.self.inside in
    let i = c.self.invariant in
    let b = c.operands-word.ensures in
    let s = b.0 in
    let none : m.world.state.stop ≡ None = rw (← c.self.view_is) at c.requires in
    let h = rw c.in-Ok.next-is at (c.in-Ok.ensures.gone s.line s.op b.2.1 (rw b.2.3 at b.2.2)) in
    let below = goes_below (g.P.Part.part m.part.now) m.loaded.now m.world m.next m.pairs i.0 i.1 s b.1 none c.carry_out.new.world.state c.in-Ok.next c.carry_out.new.pairs h in
    let later = goes (g.P.Part.part m.part.now) m.loaded.now m.world m.next m.pairs i.0 i.1 s b.1 none c.carry_out.new.world.state c.in-Ok.next c.carry_out.new.pairs h in
    (c.in-Ok.ensures.tables ∙ i.0, i.1, below, later_rests 1 _ _ (g.met.P.Part.valid m.part.now) i.3 later)

pub invariant_of-self-in-Err-Stop : goal.invariant_of-self-in-Err-Stop
invariant_of-self-in-Err-Stop g c =
    let m = c.self.inside in
    let i = c.self.invariant in
    let b = c.operands-word.ensures in
    let s = b.0 in
    let none : m.world.state.stop ≡ None = rw (← c.self.view_is) at c.requires in
    let h = rw c.in-Err-Stop.field-0-is at (c.in-Err-Stop.ensures.gone s.line s.op b.2.1 (rw b.2.3 at b.2.2)) in
    let l = c.line-line.ensures in
    let line = l.2 ∙ ap (λ (x : CodeStatement). x.line) (same_at m.loaded.now.statements m.next l.0 s l.1 b.1) in
    let later = stops (g.P.Part.part m.part.now) m.loaded.now m.world m.next m.pairs i.0 i.1 s b.1 none c.carry_out.new.world.state c.set_stop.new.self.state
    c.in-Err-Stop.stop c.carry_out.new.pairs h (rw line at (ap (λ x. x.state) c.set_stop.ensures)) in
    (ap (λ x. x.tables) c.set_stop.ensures ∙ c.in-Err-Stop.ensures.tables ∙ i.0, i.1, i.2, later_rests 1 _ _ (g.met.P.Part.valid m.part.now) i.3 later)

pub invariant_of-self-in-Err-NoMemory : goal.invariant_of-self-in-Err-NoMemory
invariant_of-self-in-Err-NoMemory g c =
    let m = c.self.inside in
    let i = c.self.invariant in
    let b = c.operands-word.ensures in
    let s = b.0 in
    let h = rw c.in-Err-NoMemory.field-0-is at (c.in-Err-NoMemory.ensures.gone s.line s.op b.2.1 (rw b.2.3 at b.2.2)) in
    (c.in-Err-NoMemory.ensures.tables ∙ i.0, i.1, i.2, subst (Rests (g.P.Part.part m.part.now)) (sym h.1) i.3)

pub returns-in-Ok-clause-ok : goal.returns-in-Ok-clause-ok
returns-in-Ok-clause-ok g c =
    let m = c.self.inside in
    let i = c.self.invariant in
    let b = c.operands-word.ensures in
    let s = b.0 in
    let none : m.world.state.stop ≡ None = rw (← c.self.view_is) at c.requires in
    let h = rw c.in-Ok.next-is at (c.in-Ok.ensures.gone s.line s.op b.2.1 (rw b.2.3 at b.2.2)) in
    rw (← c.self.view_is) (goes (g.P.Part.part m.part.now) m.loaded.now m.world m.next m.pairs i.0 i.1 s b.1 none c.carry_out.new.world.state c.in-Ok.next c.carry_out.new.pairs h)

pub returns-in-Err-Stop-clause-ok : goal.returns-in-Err-Stop-clause-ok
returns-in-Err-Stop-clause-ok g c =
    let m = c.self.inside in
    let i = c.self.invariant in
    let b = c.operands-word.ensures in
    let s = b.0 in
    let none : m.world.state.stop ≡ None = rw (← c.self.view_is) at c.requires in
    let h = rw c.in-Err-Stop.field-0-is at (c.in-Err-Stop.ensures.gone s.line s.op b.2.1 (rw b.2.3 at b.2.2)) in
    let l = c.line-line.ensures in
    let line = l.2 ∙ ap (λ (x : CodeStatement). x.line) (same_at m.loaded.now.statements m.next l.0 s l.1 b.1) in
    rw (← c.self.view_is) (stops (g.P.Part.part m.part.now) m.loaded.now m.world m.next m.pairs i.0 i.1 s b.1 none c.carry_out.new.world.state
    c.set_stop.new.self.state c.in-Err-Stop.stop c.carry_out.new.pairs h (rw line at (ap (λ x. x.state) c.set_stop.ensures)))

pub returns-in-Err-NoMemory-clause-err : goal.returns-in-Err-NoMemory-clause-err
returns-in-Err-NoMemory-clause-err g c =
    let m = c.self.inside in
    let i = c.self.invariant in
    let b = c.operands-word.ensures in
    let s = b.0 in
    let none : m.world.state.stop ≡ None = rw (← c.self.view_is) at c.requires in
    let h = rw c.in-Err-NoMemory.field-0-is at (c.in-Err-NoMemory.ensures.gone s.line s.op b.2.1 (rw b.2.3 at b.2.2)) in
    rw (← c.self.view_is) (wants (g.P.Part.part m.part.now) m.loaded.now m.world m.next m.pairs i.0 i.1 s b.1 none c.carry_out.new.world.state
    c.carry_out.new.pairs h (c.in-Err-NoMemory.ensures.memory (ap Err c.in-Err-NoMemory.field-0-is) s.op b.2.1 (rw b.2.3 at b.2.2)))

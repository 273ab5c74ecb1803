use Rattle.std.proofs.Common.{◌≡◌, ◌∙◌, None, sym, ap, subst}
use Rattle.std.specs.Prelude.{Err}
use Rattle.vcm_spec.specs.World.{World}
use Rattle.vcm_machine.proofs.StepLemmas.{fits, range_is, goes_below, wants}
use Rattle.vcm_turning.specs.Choosing.{probe_on, part_by}
use Rattle.vcm_turning.specs.Machine.{HangsNear}
use Rattle.vcm_turning.proofs.Hanging.{hangs_after}
use Rattle.vcm_turning.proofs.Taken.{gone_on, gone_off, kept}
use Rattle.vcm_turning.proofs.turning.Turning.go.Goals as goal

pub carry_out-requires-clause-operands : goal.carry_out-requires-clause-operands
carry_out-requires-clause-operands g c =
    let m = c.self.inside in
    let i = c.self.invariant in
    let b = c.operands-word.ensures in
    let fit = fits m.blocks.now m.loaded.now m.world m.next m.pairs i.4 i.5 b.0 b.1 in
    let range = range_is m.blocks.now m.loaded.now m.world m.next m.pairs i.4 i.5 b.0 b.1 in
    (b.0.op, b.2.1, rw b.2.3 at b.2.2, (fit, range))

pub invariant_of-self : goal.invariant_of-self
invariant_of-self g c =
    let m = c.self.inside in
    let i = c.self.invariant in
    let b = c.operands-word.ensures in
    let s = b.0 in
    let none : m.world.state.stop ≡ None = rw (← c.self.view_is) at c.requires in
    let by : g.P.Part.part c.part-part.result.now ≡ part_by m.blocks.now m.set.now.probes m.on = rw (← c.self.view_is) at c.part-part.ensures in
    let h = rw (c.in-Ok.next-is, by) at (c.in-Ok.ensures.gone s.line s.op b.2.1 (rw b.2.3 at b.2.2)) in
    let below = goes_below (part_by m.blocks.now m.set.now.probes m.on) m.loaded.now m.world m.next m.pairs i.4 i.5 s b.1 none c.carry_out.new.world.state c.in-Ok.next c.carry_out.new.pairs h in
    let hangs =
    hangs_after m.blocks.now m.set.now.probes m.on i.3 i.9 m.world.tables m.world.state c.carry_out.new.world.state m.next s.line c.in-Ok.next m.pairs c.carry_out.new.pairs s.op h i.10 in
    (i.0, i.1, i.2, i.3, c.in-Ok.ensures.tables ∙ i.4, i.5, below, i.7, i.8, i.9, hangs)

pub invariant_of-self-in-Err-Stop : goal.invariant_of-self-in-Err-Stop
invariant_of-self-in-Err-Stop g c =
    let m = c.self.inside in
    let i = c.self.invariant in
    let b = c.operands-word.ensures in
    let s = b.0 in
    let by : g.P.Part.part c.part-part.result.now ≡ part_by m.blocks.now m.set.now.probes m.on = rw (← c.self.view_is) at c.part-part.ensures in
    let h = rw (c.in-Err-Stop.field-0-is, by) at (c.in-Err-Stop.ensures.gone s.line s.op b.2.1 (rw b.2.3 at b.2.2)) in
    let hangs = subst (λ (w : World). HangsNear (probe_on m.set.now.probes m.on) w.position) (sym h.1) i.10 in
    (i.0, i.1, i.2, i.3, c.in-Err-Stop.ensures.tables ∙ i.4, i.5, i.6, i.7, i.8, i.9, hangs)

pub invariant_of-self-in-Err-NoMemory : goal.invariant_of-self-in-Err-NoMemory
invariant_of-self-in-Err-NoMemory g c =
    let m = c.self.inside in
    let i = c.self.invariant in
    let b = c.operands-word.ensures in
    let s = b.0 in
    let by : g.P.Part.part c.part-part.result.now ≡ part_by m.blocks.now m.set.now.probes m.on = rw (← c.self.view_is) at c.part-part.ensures in
    let h = rw (c.in-Err-NoMemory.field-0-is, by) at (c.in-Err-NoMemory.ensures.gone s.line s.op b.2.1 (rw b.2.3 at b.2.2)) in
    let hangs = subst (λ (w : World). HangsNear (probe_on m.set.now.probes m.on) w.position) (sym h.1) i.10 in
    (i.0, i.1, i.2, i.3, c.in-Err-NoMemory.ensures.tables ∙ i.4, i.5, i.6, i.7, i.8, i.9, hangs)

pub returns-in-Ok-clause-ok : goal.returns-in-Ok-clause-ok
returns-in-Ok-clause-ok g c =
    let m = c.self.inside in
    let i = c.self.invariant in
    let b = c.operands-word.ensures in
    let s = b.0 in
    let none : m.world.state.stop ≡ None = rw (← c.self.view_is) at c.requires in
    let by : g.P.Part.part c.part-part.result.now ≡ part_by m.blocks.now m.set.now.probes m.on = rw (← c.self.view_is) at c.part-part.ensures in
    let h = rw (c.in-Ok.next-is, by) at (c.in-Ok.ensures.gone s.line s.op b.2.1 (rw b.2.3 at b.2.2)) in
    rw (← c.self.view_is)
    (gone_on m.blocks.now m.set.now.probes m.variable m.loaded.now m.world m.next m.pairs m.on i.4 i.5 s b.1 none c.carry_out.new.world.state c.in-Ok.next c.carry_out.new.pairs h
    c.in-Ok.ensures.stop)

pub returns-in-Err-Stop-clause-ok : goal.returns-in-Err-Stop-clause-ok
returns-in-Err-Stop-clause-ok g c =
    let m = c.self.inside in
    let i = c.self.invariant in
    let b = c.operands-word.ensures in
    let s = b.0 in
    let none : m.world.state.stop ≡ None = rw (← c.self.view_is) at c.requires in
    let by : g.P.Part.part c.part-part.result.now ≡ part_by m.blocks.now m.set.now.probes m.on = rw (← c.self.view_is) at c.part-part.ensures in
    let h = rw (c.in-Err-Stop.field-0-is, by) at (c.in-Err-Stop.ensures.gone s.line s.op b.2.1 (rw b.2.3 at b.2.2)) in
    rw (← c.self.view_is)
    (gone_off m.blocks.now m.set.now.probes m.variable m.loaded.now m.world m.next m.pairs m.on i.4 i.5 s b.1 none c.carry_out.new.world.state c.in-Err-Stop.stop c.carry_out.new.pairs h)

pub returns-in-Err-NoMemory-clause-err : goal.returns-in-Err-NoMemory-clause-err
returns-in-Err-NoMemory-clause-err g c =
    let m = c.self.inside in
    let i = c.self.invariant in
    let b = c.operands-word.ensures in
    let s = b.0 in
    let none : m.world.state.stop ≡ None = rw (← c.self.view_is) at c.requires in
    let by : g.P.Part.part c.part-part.result.now ≡ part_by m.blocks.now m.set.now.probes m.on = rw (← c.self.view_is) at c.part-part.ensures in
    let h = rw (c.in-Err-NoMemory.field-0-is, by) at (c.in-Err-NoMemory.ensures.gone s.line s.op b.2.1 (rw b.2.3 at b.2.2)) in
    let printed = c.in-Err-NoMemory.ensures.memory (ap Err c.in-Err-NoMemory.field-0-is) s.op b.2.1 (rw b.2.3 at b.2.2) in
    rw (← c.self.view_is) (
      kept m.blocks.now m.set.now.probes m.variable m.loaded.now m.world m.next m.pairs m.on i.4 i.5 s b.1 none c.carry_out.new.world.state c.carry_out.new.pairs h,
      (wants (part_by m.blocks.now m.set.now.probes m.on) m.loaded.now m.world m.next m.pairs i.4 i.5 s b.1 none c.carry_out.new.world.state c.carry_out.new.pairs h printed).1,
    )

use Rattle.std.proofs.Common.{ap, ◌∙◌}
use Rattle.vcm_trace.proofs.RowLemmas.{not_begun, broken_off, halted, has_stopped, is_open, cut_last}
use Rattle.vcm_trace.proofs.rows.write_from_start.Goals as goal

pub returns-in_default-clause-fault : goal.returns-in_default-clause-fault
returns-in_default-clause-fault g c = not_begun (g.F.WritesRows.Rows c.args.by.now) c.args.machine.now.part c.args.loaded.now c.args.steps _ _ c.in_default.ensures

pub returns-in-Ok-write_rest-clause-written : goal.returns-in-Ok-write_rest-clause-written
returns-in-Ok-write_rest-clause-written g c =
    let r = c.in-Ok-follow_rows.ran in
    is_open (g.F.WritesRows.Rows c.args.by.now) c.args.machine.now.part c.args.loaded.now c.args.steps c.args.machine.now c.follow_rows.new.machine r c.requires.start c.in-Ok-follow_rows.ensures.run _ _ _
    c.in-Ok.ensures (rw c.requires.frames at c.in-Ok-follow_rows.ensures.has) c.in-Count.is _ c.in-Ok-write_rest.ensures

pub returns-in-Err-write_rest-clause-fault : goal.returns-in-Err-write_rest-clause-fault
returns-in-Err-write_rest-clause-fault g c =
    let r = c.in-Ok-follow_rows.ran in
    cut_last (g.F.WritesRows.Rows c.args.by.now) c.args.machine.now.part c.args.loaded.now c.args.steps c.args.machine.now c.follow_rows.new.machine r c.requires.start c.in-Ok-follow_rows.ensures.run _ _ _
    c.in-Ok.ensures (rw c.requires.frames at c.in-Ok-follow_rows.ensures.has) c.in-Count.is _ c.in-Err-write_rest.ensures

pub returns-in-Stopped-clause-written : goal.returns-in-Stopped-clause-written
returns-in-Stopped-clause-written g c =
    let r = c.in-Ok-follow_rows.ran in
    has_stopped (g.F.WritesRows.Rows c.args.by.now) c.args.machine.now.part c.args.loaded.now c.args.steps c.args.machine.now c.follow_rows.new.machine r c.requires.start c.in-Ok-follow_rows.ensures.run _ _ _
    c.in-Ok.ensures (rw c.requires.frames at c.in-Ok-follow_rows.ensures.has) c.stop.result c.in-Stopped.is (c.stop.ensures ∙ ap (λ s. s.stop) c.world.ensures.state)

pub returns-in-NoMemory-clause-fault : goal.returns-in-NoMemory-clause-fault
returns-in-NoMemory-clause-fault g c =
    let r = c.in-Ok-follow_rows.ran in
    halted (g.F.WritesRows.Rows c.args.by.now) c.args.machine.now.part c.args.loaded.now c.args.steps c.args.machine.now c.follow_rows.new.machine r c.requires.start c.in-Ok-follow_rows.ensures.run _ _ _
    c.in-Ok.ensures (rw c.requires.frames at c.in-Ok-follow_rows.ensures.has) c.in-NoMemory.is

pub returns-in-Err-clause-fault : goal.returns-in-Err-clause-fault
returns-in-Err-clause-fault g c =
    broken_off (g.F.WritesRows.Rows c.args.by.now) c.args.machine.now.part c.args.loaded.now c.args.steps _ _ _ c.in-Err.fault c.in-Ok.ensures (rw c.requires.frames at c.in-Err.ensures.err)

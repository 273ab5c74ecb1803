use Rattle.std.proofs.Common.{◌≡◌, [], ap, sym, ◌∙◌}
use Rattle.vcm_machine.specs.declared.ran.End.TheVariants as ends
use Rattle.vcm_machine.specs.Running.{started}
use Rattle.vcm_naming.specs.Pages.{page}
use Rattle.vcm_clearance.specs.inner.Following.{IsDone}
use Rattle.vcm_clearance.proofs.Running.{tables_are, opened_at, broken_off, halted, cleared, cut_off}
use Rattle.vcm_clearance.proofs.Tried.{opened}
use Rattle.vcm_clearance.proofs.clearing.clear_run.Goals as goal
use Rattle.vcm_clearance.proofs.clearing.clear_run.Goals.{in-Count, in-Stopped}

pub returns-in-Err-clause-fault : goal.returns-in-Err-clause-fault
returns-in-Err-clause-fault g c =
    let t = c.args.trier.now in
    let part = t.blocks.now in
    let boxes = t.boxes.now in
    let valid = c.bounds-bounds.ensures.valid in
    let are = c.as_slice-boxes.ensures.valid in
    let code = c.args.loaded.now in
    let start : IsDone part.blocks boxes [] c.args.rooms.now.items 0 = rw c.requires.rooms (opened part.blocks boxes) in
    let at = opened_at part valid boxes are code c.args.steps t.source.now c.args.rooms.now.items c.args.kept.now.items c.requires.rooms c.requires.kept in
    broken_off part valid boxes are code c.args.steps c.args.untried.now t.source.now c.args.rooms.now.items c.args.kept.now.items 0
    (page (g.W.Write.contents c.args.writer.now) c.args.names.now) (page (g.W.Write.contents c.try_run.new.writer) c.try_run.new.names) start at c.in-Err.fault t.loaded.now c.requires.same
    c.args.machine.now.part c.requires.beside c.in-Err.ensures.err

pub returns-in-NoMemory-clause-fault : goal.returns-in-NoMemory-clause-fault
returns-in-NoMemory-clause-fault g c =
    let t = c.args.trier.now in
    let part = t.blocks.now in
    let boxes = t.boxes.now in
    let valid = c.bounds-bounds.ensures.valid in
    let are = c.as_slice-boxes.ensures.valid in
    let code = c.args.loaded.now in
    let start : IsDone part.blocks boxes [] c.args.rooms.now.items 0 = rw c.requires.rooms (opened part.blocks boxes) in
    let at = opened_at part valid boxes are code c.args.steps t.source.now c.args.rooms.now.items c.args.kept.now.items c.requires.rooms c.requires.kept in
    let is = c.requires.start ∙ ap (λ p. started p code) c.requires.beside in
    let has = c.in-Ok.ensures.has in
    halted part valid boxes are code c.args.steps c.args.machine.now c.try_run.new.machine c.in-Ok.tried.0 is c.in-Ok.ensures.run t.source.now c.args.rooms.now.items
    c.try_run.new.rooms.items c.args.kept.now.items c.try_run.new.kept.items c.in-Ok.tried.1 (page (g.W.Write.contents c.args.writer.now) c.args.names.now)
    (page (g.W.Write.contents c.try_run.new.writer) c.try_run.new.names) has.0 start at t.loaded.now c.requires.same c.args.machine.now.part c.requires.beside has.1 c.in-NoMemory.is

pub returns-in-Ok-write_summary-clause-cleared : goal.returns-in-Ok-write_summary-clause-cleared
returns-in-Ok-write_summary-clause-cleared g c =
    let t = c.args.trier.now in
    let part = t.blocks.now in
    let boxes = t.boxes.now in
    let valid = c.bounds-bounds.ensures.valid in
    let are = c.as_slice-boxes.ensures.valid in
    let code = c.args.loaded.now in
    let start : IsDone part.blocks boxes [] c.args.rooms.now.items 0 = rw c.requires.rooms (opened part.blocks boxes) in
    let at = opened_at part valid boxes are code c.args.steps t.source.now c.args.rooms.now.items c.args.kept.now.items c.requires.rooms c.requires.kept in
    let is = c.requires.start ∙ ap (λ p. started p code) c.requires.beside in
    let has = c.in-Ok.ensures.has in
    let ran = c.in-Ok.tried.0 in
    let ample : ran.end ≡ ends.NoMemory → ⊥ = elim c.match-ran.branch [
      | in-Count v ↦ (λ e. (let no : ends.Count ≡ ends.NoMemory = sym v.in-Count.is ∙ e in absurd cc))
      | in-Stopped v ↦ (λ e. (let no : ends.Stopped ≡ ends.NoMemory = sym v.in-Stopped.is ∙ e in absurd cc))
    ] in
    let stop = c.world-world.result.now.state.stop in
    let same = ap (λ s. s.stop) c.world-world.ensures.state in
    let tables = c.world-world.ensures.tables ∙ tables_are part valid boxes are code c.args.steps c.args.machine.now c.try_run.new.machine ran is c.in-Ok.ensures.run in
    cleared part valid boxes are code c.args.steps c.args.machine.now c.try_run.new.machine ran is c.in-Ok.ensures.run t.source.now c.args.rooms.now.items c.try_run.new.rooms.items
    c.args.kept.now.items c.try_run.new.kept.items c.in-Ok.tried.1 (page (g.W.Write.contents c.args.writer.now) c.args.names.now)
    (page (g.W.Write.contents c.try_run.new.writer) c.try_run.new.names) has.0 start at t.loaded.now c.requires.same c.args.machine.now.part c.requires.beside has.1 c.args.untried.now ample stop same
    c.as_slice-boxes.result.now c.as_slice-known.result.now c.as_slice-kept.result.now c.tables.result.now c.world-world.result.now.tables c.as_slice-boxes.ensures.boxes
    c.as_slice-known.ensures.value c.as_slice-kept.ensures.value (c.tables.ensures ∙ tables) tables _ _ c.is_some_met.ensures c.stop.ensures c.in-Ok-write_summary.ensures

pub returns-in-Err-write_summary-clause-fault : goal.returns-in-Err-write_summary-clause-fault
returns-in-Err-write_summary-clause-fault g c =
    let t = c.args.trier.now in
    let part = t.blocks.now in
    let boxes = t.boxes.now in
    let valid = c.bounds-bounds.ensures.valid in
    let are = c.as_slice-boxes.ensures.valid in
    let code = c.args.loaded.now in
    let start : IsDone part.blocks boxes [] c.args.rooms.now.items 0 = rw c.requires.rooms (opened part.blocks boxes) in
    let at = opened_at part valid boxes are code c.args.steps t.source.now c.args.rooms.now.items c.args.kept.now.items c.requires.rooms c.requires.kept in
    let is = c.requires.start ∙ ap (λ p. started p code) c.requires.beside in
    let has = c.in-Ok.ensures.has in
    let ran = c.in-Ok.tried.0 in
    let ample : ran.end ≡ ends.NoMemory → ⊥ = elim c.match-ran.branch [
      | in-Count v ↦ (λ e. (let no : ends.Count ≡ ends.NoMemory = sym v.in-Count.is ∙ e in absurd cc))
      | in-Stopped v ↦ (λ e. (let no : ends.Stopped ≡ ends.NoMemory = sym v.in-Stopped.is ∙ e in absurd cc))
    ] in
    let stop = c.world-world.result.now.state.stop in
    let same = ap (λ s. s.stop) c.world-world.ensures.state in
    let tables = c.world-world.ensures.tables ∙ tables_are part valid boxes are code c.args.steps c.args.machine.now c.try_run.new.machine ran is c.in-Ok.ensures.run in
    cut_off part valid boxes are code c.args.steps c.args.machine.now c.try_run.new.machine ran is c.in-Ok.ensures.run t.source.now c.args.rooms.now.items c.try_run.new.rooms.items
    c.args.kept.now.items c.try_run.new.kept.items c.in-Ok.tried.1 (page (g.W.Write.contents c.args.writer.now) c.args.names.now)
    (page (g.W.Write.contents c.try_run.new.writer) c.try_run.new.names) has.0 start at t.loaded.now c.requires.same c.args.machine.now.part c.requires.beside has.1 c.args.untried.now ample stop same
    c.as_slice-boxes.result.now c.as_slice-known.result.now c.as_slice-kept.result.now c.tables.result.now c.world-world.result.now.tables c.as_slice-boxes.ensures.boxes
    c.as_slice-known.ensures.value c.as_slice-kept.ensures.value (c.tables.ensures ∙ tables) tables _ c.in-Err-write_summary.ensures

use Rattle.std.proofs.Common.{refl}
use Rattle.vcm_naming.proofs.Pages.{added_then, adds_front_first}
use Rattle.vcm_clearance.specs.inner.Here.{past_text, kept_lines}
use Rattle.vcm_clearance.proofs.printing.+write_boxes.Goals as goal

pub returns-in-Ok : goal.returns-in-Ok
returns-in-Ok g depth c =
    rw (c.in-Some.ensures.cases.0, c.in-Some-split_first.ensures.cases.0, c.in-Some-split_first-2.ensures.cases.0)
    (added_then _ _ _ _ _ _ _ refl (rw c.as_bytes-name.ensures.is at c.in-Ok.ensures) c.write_boxes.ensures)

pub returns-in-Err : goal.returns-in-Err
returns-in-Err g depth c =
    let b = c.args.behind.now in
    rw (c.in-Some.ensures.cases.0, c.in-Some-split_first.ensures.cases.0, c.in-Some-split_first-2.ensures.cases.0)
    (adds_front_first _ _ _
    (kept_lines (past_text b.source.now b.loaded.now.statements b.tables.now) c.in-Some.boxes.now c.in-Some-split_first.rooms.now c.in-Some-split_first-2.kept.now) _ refl
    (rw c.as_bytes-name.ensures.is at c.in-Err.ensures))

use Rattle.std.proofs.Common.{arith, rules}
use Rattle.std.proofs.lemmas.List.{nil_from_length}
use Rattle.vcm_adapt.proofs.Steps.{next_edit, step_line, step_none, end_text, end_new}
use Rattle.vcm_adapt.proofs.adapting.edit_text.Goals as goal
use Rattle.vcm_adapt.proofs.adapting.edit_text.Goals.{then-not-is_empty+in_ok-put_line, else-not-is_empty}

pub edits-preserved : goal.edits-preserved
edits-preserved c =
    let next = next_edit c.args.edits.now c.edits.edit-index c.edit-item.result c.edits-test.true c.edit-item.is in
    elim c.if-not-is_empty.branch [
      | then-not-is_empty+in_ok-put_line w ↦
          rw (w.out-is, w.rest-is, w.in_ok-put_line.ensures)
          (step_line c.args.edits.now c.args.text.now c.edits.edit-index c.edit-item.result c.edits.out.items c.edits.rest.now w.whole_line.result.0.now
          w.whole_line.result.1.now next c.known.ensures w.whole_line.ensures.cut c.edits.invariant)
      | else-not-is_empty w ↦
          rw (w.out-is, w.rest-is)
          (step_none c.args.edits.now c.args.text.now c.edits.edit-index c.edit-item.result c.edits.out.items c.edits.rest.now next c.known.ensures
          (nil_from_length c.edits.rest.now (grind (arith, rules, w.if-not-is_empty.false))) c.edits.invariant)
    ]

pub returns-clause-text : goal.returns-clause-text
returns-clause-text c = rw c.in_ok-extend_from_slice.ensures.items
    (end_text c.args.edits.now c.args.text.now c.edits.edit-index c.edits.out.items c.edits.rest.now c.edits-test.false c.edits.invariant)

pub returns-clause-new : goal.returns-clause-new
returns-clause-new c = end_new c.args.edits.now c.args.text.now c.edits.edit-index c.edits.out.items c.edits.rest.now c.edits-test.false c.edits.invariant

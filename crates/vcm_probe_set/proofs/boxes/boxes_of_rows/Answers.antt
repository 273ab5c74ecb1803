use Rattle.std.proofs.Common.{rules, sym}
use Rattle.std.proofs.lemmas.Result.{err_from_is_err_and}
use Rattle.vcm_probe_set.specs.ProbeFile.{box_of}
use Rattle.vcm_probe_set.proofs.Rows.{goes_on, ends, is_done, all_push}
use Rattle.vcm_probe_set.proofs.boxes.boxes_of_rows.Goals as goal

pub returns-in_err-next-clause-gives : goal.returns-in_err-next-clause-gives
returns-in_err-next-clause-gives c =
    let p = err_from_is_err_and c.from_residual-in_err-next.result c.from_residual-in_err-next.ensures.1 in
    rw (p.1, p.2) (ends (box_of c.args.owner) c.loop-row.boxes.items c.args.rows.now c.loop-row.row-index _ c.loop-row.invariant.read c.row-item.result
    c.loop-row-test.true (sym c.row-item.is) c.in_err-next.field-0.0 (rw c.deref.ensures.value at c.in_err-next.ensures.gives))

pub loop-row-preserved : goal.loop-row-preserved
loop-row-preserved c = record {
  many = search rules;
  valid = rw c.in_ok-push.ensures.items (all_push c.loop-row.boxes.items c.in_ok-next.next c.loop-row.invariant.valid c.in_ok-next.ensures.valid);
  read = rw c.in_ok-push.ensures.items (goes_on (box_of c.args.owner) c.loop-row.boxes.items c.args.rows.now c.loop-row.row-index _ c.loop-row.invariant.read
      c.row-item.result c.loop-row-test.true (sym c.row-item.is) c.in_ok-next.next (rw c.deref.ensures.value at c.in_ok-next.ensures.gives));
}

pub returns-clause-gives : goal.returns-clause-gives
returns-clause-gives c = is_done (box_of c.args.owner) c.loop-row.boxes.items c.args.rows.now c.loop-row.row-index _ c.loop-row.invariant.read c.loop-row-test.false

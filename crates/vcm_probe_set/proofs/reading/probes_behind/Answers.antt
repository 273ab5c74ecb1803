use Rattle.std.proofs.Common.{rules, sym}
use Rattle.std.proofs.lemmas.Result.{err_from_is_err_and}
use Rattle.vcm_probe_set.specs.ProbeFile.{probe_of}
use Rattle.vcm_probe_set.proofs.Rows.{goes_on, ends, is_done}
use Rattle.vcm_probe_set.proofs.reading.probes_behind.Goals as goal

pub returns-in_err-next-clause-gives : goal.returns-in_err-next-clause-gives
returns-in_err-next-clause-gives c =
    let p = err_from_is_err_and c.from_residual-in_err-next.result c.from_residual-in_err-next.ensures.1 in
    rw (p.1, p.2) (ends probe_of c.loop-row.probes.items c.args.rows.now c.loop-row.row-index _ c.loop-row.invariant.read c.row-item.result
    c.loop-row-test.true (sym c.row-item.is) c.in_err-next.field-0.0 (rw c.deref.ensures.value at c.in_err-next.ensures))

pub loop-row-preserved : goal.loop-row-preserved
loop-row-preserved c = record {
  many = search rules;
  read = rw c.in_ok-push.ensures.items (goes_on probe_of c.loop-row.probes.items c.args.rows.now c.loop-row.row-index _ c.loop-row.invariant.read
      c.row-item.result c.loop-row-test.true (sym c.row-item.is) c.in_ok-next.next (rw c.deref.ensures.value at c.in_ok-next.ensures));
}

pub returns-clause-gives : goal.returns-clause-gives
returns-clause-gives c = is_done probe_of c.loop-row.probes.items c.args.rows.now c.loop-row.row-index _ c.loop-row.invariant.read c.loop-row-test.false

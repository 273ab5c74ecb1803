use Rattle.std.proofs.Common.{rules, sym, w32, FitsSigned, to_z, of_z, to_z-of_z}
use Rattle.std.proofs.lemmas.Result.{err_from_is_err_and}
use Rattle.vcm_hardware.specs.HardwareFile.{part_of}
use Rattle.vcm_hardware.proofs.Rows.{goes_on, ends, is_done}
use Rattle.vcm_hardware.proofs.reading.parts_of.Goals as goal

pub returns-in_err-next-clause-gives : goal.returns-in_err-next-clause-gives
returns-in_err-next-clause-gives c =
    let f : FitsSigned w32 c.args.step = search rules in
    let read = simp to_z-of_z at c.loop-row.invariant.read in
    let next = simp to_z-of_z at c.in_err-next.ensures in
    let p = err_from_is_err_and c.from_residual-in_err-next.result c.from_residual-in_err-next.ensures.1 in
    rw (p.1, p.2) (ends (part_of c.args.step) c.loop-row.parts.items c.args.rows.now c.loop-row.row-index _ read c.row-item.result c.loop-row-test.true (sym c.row-item.is)
    c.in_err-next.field-0.0 (rw c.deref.ensures.value at next))

pub loop-row-preserved : goal.loop-row-preserved
loop-row-preserved c = record {
  many = search rules;
  read = rw c.in_ok-push.ensures.items (goes_on (part_of (to_z w32 (of_z w32 c.args.step))) c.loop-row.parts.items c.args.rows.now c.loop-row.row-index _ c.loop-row.invariant.read
      c.row-item.result c.loop-row-test.true (sym c.row-item.is) c.in_ok-next.next (rw c.deref.ensures.value at c.in_ok-next.ensures));
}

pub returns-clause-gives : goal.returns-clause-gives
returns-clause-gives c =
    let f : FitsSigned w32 c.args.step = search rules in
    let read = simp to_z-of_z at c.loop-row.invariant.read in
    is_done (part_of c.args.step) c.loop-row.parts.items c.args.rows.now c.loop-row.row-index _ read c.loop-row-test.false

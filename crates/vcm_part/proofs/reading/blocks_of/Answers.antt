use Rattle.std.proofs.Common.{rules, sym}
use Rattle.std.proofs.lemmas.Result.{err_from_is_err_and}
use Rattle.vcm_part.proofs.Rows.{goes_on, ends, is_done, all_push}
use Rattle.vcm_part.specs.PartFile.{blocks_from}
use Rattle.toml.specs.View.{items_view}
use Rattle.vcm_part.proofs.reading.blocks_of.Goals as goal

pub returns-in_err-block-clause-gives : goal.returns-in_err-block-clause-gives
returns-in_err-block-clause-gives c =
    let p = err_from_is_err_and c.from_residual.result c.from_residual.ensures.1 in
    rw (p.1, p.2) (ends c.in_err-block.field-0.0 c.loop-row.blocks.items c.args.rows.now c.loop-row.row-index c.row-item.result
    (blocks_from 1 (items_view c.args.rows.now)) c.loop-row-test.true (sym c.row-item.is) (rw c.loop-row.invariant.number at c.in_err-block.ensures.gives)
    c.loop-row.invariant.front)

pub loop-row-preserved : goal.loop-row-preserved
loop-row-preserved c = record {
  few = search rules;
  valid = rw c.in_ok-push.ensures.items (all_push c.loop-row.blocks.items c.in_ok-block.block c.loop-row.invariant.valid c.in_ok-block.ensures.valid);
  number = search rules;
  front = rw c.in_ok-push.ensures.items (goes_on c.loop-row.blocks.items c.args.rows.now c.loop-row.row-index c.row-item.result c.in_ok-block.block
      (blocks_from 1 (items_view c.args.rows.now)) c.loop-row-test.true (sym c.row-item.is) (rw c.loop-row.invariant.number at c.in_ok-block.ensures.gives)
      c.loop-row.invariant.front);
}

pub returns-clause-gives : goal.returns-clause-gives
returns-clause-gives c = is_done c.loop-row.blocks.items c.args.rows.now c.loop-row.row-index (blocks_from 1 (items_view c.args.rows.now)) c.loop-row-test.false c.loop-row.invariant.front

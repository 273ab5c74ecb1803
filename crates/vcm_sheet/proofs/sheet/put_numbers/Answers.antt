use Rattle.vcm_sheet.specs.Views.{number_said}
use Rattle.vcm_sheet.proofs.Saying.{row_more, all_rows}
use Rattle.vcm_sheet.proofs.sheet.put_numbers.Goals as goal

pub loop-number-preserved : goal.loop-number-preserved
loop-number-preserved c = record {
  rows = row_more (number_said c.args.unit) c.args.numbers.now c.loop-number.number-index _ _ _ _ c.loop-number-test.true c.loop-number.invariant.rows
      (rw c.number-item.is at c.in_ok-put_number.ensures);
}

pub returns : goal.returns
returns c = all_rows (number_said c.args.unit) c.args.numbers.now c.loop-number.number-index _ _ c.loop-number-test.false c.loop-number.invariant.rows

use Rattle.std.proofs.Common.{length, ap, ◌∙◌, arith}
use Rattle.vcm_untried.specs.Telling.{remark_on}
use Rattle.vcm_untried.proofs.Tables.{length_ranged, tabled_none, tabled_more, tabled_past}
use Rattle.vcm_untried.proofs.counting.table_of.Goals as goal

pub loop-at-init : goal.loop-at-init
loop-at-init c = record { within = omega arith; table = tabled_none c.args.remarks.now c.args.statements _ c.in_ok-table.ensures }

pub index_mut-requires : goal.index_mut-requires
index_mut-requires c =
    let k = ap length c.loop-at.invariant.table ∙ length_ranged (remark_on _) 0 c.args.statements in
    let l = c.if-number-statements.true in
    omega (arith, k, l)

pub loop-at-preserved-then-number-statements : goal.loop-at-preserved-then-number-statements
loop-at-preserved-then-number-statements c =
    let l = c.loop-at.invariant.within in record {
      within = omega (arith, l);
      table = tabled_more c.args.remarks.now c.args.statements c.loop-at.at c.loop-at.table.items c.loop-at.invariant.table c.loop-at-test.true l _ c.if-number-statements.true;
    }

pub loop-at-preserved : goal.loop-at-preserved
loop-at-preserved c =
    let l = c.loop-at.invariant.within in record {
      within = omega (arith, l);
      table = tabled_past c.args.remarks.now c.args.statements c.loop-at.at c.loop-at.table.items c.loop-at.invariant.table c.loop-at-test.true l _ c.if-number-statements.false;
    }

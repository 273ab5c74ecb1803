use Rattle.vcm_sheet.proofs.Tabled.{one_more_head, all_heads}
use Rattle.vcm_sheet.proofs.rows.put_heads.Goals as goal

pub loop-index-preserved : goal.loop-index-preserved
loop-index-preserved c = record { heads = one_more_head c.args.rows c.loop-index.index _ _ _ c.loop-index.invariant.heads c.in_ok-put_head_at.ensures }

pub returns : goal.returns
returns c = all_heads c.args.rows c.args.count c.loop-index.index _ _ c.loop-index.invariant.heads c.loop-index.auto.index-end c.loop-index-test.false

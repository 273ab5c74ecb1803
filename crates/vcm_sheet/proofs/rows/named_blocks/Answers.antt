use Rattle.std.proofs.Common.{map, length}
use Rattle.vcm_sheet.proofs.Tabled.{one_more_name, all_names}
use Rattle.vcm_sheet.proofs.rows.named_blocks.Goals as goal

pub loop-index-preserved : goal.loop-index-preserved
loop-index-preserved c = record {
  blocks = one_more_name (map (λ n. n.items) c.args.names.now) c.loop-index.index _ _ c.loop-index.invariant.blocks c.in_ok-push_named.ensures;
}

pub returns : goal.returns
returns c =
    all_names (map (λ n. n.items) c.args.names.now) (length c.args.names.now) c.loop-index.index _ c.loop-index.invariant.blocks
    c.loop-index.auto.index-end c.loop-index-test.false

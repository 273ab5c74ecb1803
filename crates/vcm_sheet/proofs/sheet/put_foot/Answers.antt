use Rattle.std.proofs.Common.{refl, ◌++◌}
use Rattle.std.specs.Prelude.{codes}
use Rattle.vcm_sheet.specs.Content.{filing, bar_said, block_if}
use Rattle.vcm_sheet.proofs.Mute.{known}
use Rattle.vcm_sheet.proofs.Saying.{adds_both, adds_end}
use Rattle.vcm_sheet.proofs.sheet.put_foot.Goals as goal

pub returns : goal.returns
returns c =
    let s = c.args.sheet.now in
    let bar = bar_said c.args.window in
    let block = block_if (filing s) s.paper c.args.lines c.args.points c.args.window in
    adds_end c.put.result (bar ++ block) _ _ (codes "</svg>\n") _ (known (λ rest. refl))
    (adds_both bar block _ _ _ c.in_ok-put_length.ensures c.in_ok-put_block_if.ensures) c.put.ensures

use Rattle.vcm_dap.proofs.Items.{lines_all}
use Rattle.vcm_dap.proofs.breakpoints.asked_lines.Goals as goal

pub returns : goal.returns
returns g c =
    lines_all c.args.talk.now.is_from_0 c.args.items.now c.loop-item.item-index c.loop-item.lines.items c.loop-item-test.false c.loop-item.invariant

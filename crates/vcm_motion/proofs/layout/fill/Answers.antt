use Rattle.std.proofs.Common.{sym, ◌∙◌}
use Rattle.vcm_motion.proofs.StripLists.{fill_more, fill_same, fill_all}
use Rattle.vcm_motion.proofs.layout.fill.Goals as goal
use Rattle.vcm_motion.proofs.layout.fill.Goals.{then-has_strip+in_ok-push, else-has_strip}

pub loop-index-preserved : goal.loop-index-preserved
loop-index-preserved c =
    elim c.if-has_strip.branch [
      | then-has_strip+in_ok-push w ↦ rw w.order-is (rw w.in_ok-push.ensures.items (fill_more c.args.strip c.args.spans.now c.loop-index.index c.loop-index.order.items _
          c.loop-index-test.true (sym c.has_strip.ensures ∙ w.if-has_strip.true) c.loop-index.invariant))
      | else-has_strip w ↦ rw w.order-is (fill_same c.args.strip c.args.spans.now c.loop-index.index c.loop-index.order.items _
          c.loop-index-test.true (sym c.has_strip.ensures ∙ w.if-has_strip.false) c.loop-index.invariant)
    ]

pub returns : goal.returns
returns c = fill_all c.args.strip c.args.spans.now c.loop-index.index c.loop-index.order.items _ c.loop-index-test.false c.loop-index.invariant

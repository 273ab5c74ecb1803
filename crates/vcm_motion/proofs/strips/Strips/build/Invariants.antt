use Rattle.vcm_motion.proofs.StripLists.{AreListed}
use Rattle.vcm_motion.proofs.strips.Strips.build.Given as goal

abbrev pub invariant-loop-strip : goal.invariant-loop-strip
invariant-loop-strip l = AreListed l.low l.width l.blocks l.strip l.order.items l.starts.items

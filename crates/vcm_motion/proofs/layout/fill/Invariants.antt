use Rattle.std.proofs.Common.{◌≡◌, ◌++◌, drop}
use Rattle.vcm_motion.specs.inner.Spans.{having}
use Rattle.vcm_motion.proofs.layout.fill.Given as goal

abbrev pub invariant-loop-index : goal.invariant-loop-index
invariant-loop-index l = l.order.items ++ having l.strip l.index (drop l.index l.spans) ≡ l.fn.order.items ++ having l.strip 0 l.spans

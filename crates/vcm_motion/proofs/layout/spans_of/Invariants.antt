use Rattle.std.proofs.Common.{◌≡◌, ◌++◌, map, drop}
use Rattle.vcm_motion.specs.inner.Spans.{span_at}
use Rattle.vcm_motion.proofs.layout.spans_of.Given as goal

abbrev pub invariant-loop-block : goal.invariant-loop-block
invariant-loop-block l = l.spans.items ++ map (span_at l.low l.width) (drop l.block-index l.blocks) ≡ map (span_at l.low l.width) l.blocks

use Rattle.std.proofs.Common.{◌+◌, ◌*◌, ◌^◌, ◌<◌, ◌≤◌}
use Rattle.std.specs.Prelude.{IfSome}
use Rattle.vcm_set_debug.proofs.ServedLines.{Going}
use Rattle.vcm_set_debug.proofs.serving.serve_lines.Given as goal

abbrev pub invariant-loop-lines : goal.invariant-loop-lines
invariant-loop-lines g l = record {
  count : l.session.run.count + 1000000 * l.lines + 1 < 2 ^ 64;
  bytes : l.left ≤ l.bytes;
  going : IfSome (g.R.Read.remaining l.fn.reader)
      (λ input. Going l.fn.lines l.bytes l.fn.session (g.W.Write.contents l.fn.writer) input l.lines l.left l.session (g.R.Read.remaining l.reader) (g.W.Write.contents l.writer));
}

abbrev pub decreases-loop-lines : goal.decreases-loop-lines
decreases-loop-lines g l = l.lines

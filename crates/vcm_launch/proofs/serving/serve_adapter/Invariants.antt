use Rattle.std.proofs.Common.{◌+◌, ◌*◌, ◌≤◌}
use Rattle.vcm_launch.proofs.serving.serve_adapter.Given as goal

abbrev pub invariant-loop-served : goal.invariant-loop-served
invariant-loop-served g l = l.adapter.session.count ≤ l.fn.adapter.session.count + 1000000 * l._served

use Rattle.std.proofs.Common.{◌≡◌, drop}
use Rattle.vcm_backtrace.specs.Standing.{put_over}
use Rattle.vcm_backtrace.proofs.standing.put_over.Given as goal

abbrev pub invariant-loop-place : goal.invariant-loop-place
invariant-loop-place l = put_over l.values.items l.place (drop l.place l.others) ≡ put_over l.fn.values.items 0 l.others

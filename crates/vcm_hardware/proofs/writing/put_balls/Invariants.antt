use Rattle.std.proofs.Common.{◌≡◌, ◌++◌, drop}
use Rattle.vcm_hardware.specs.ProbeFile.{balls_text}
use Rattle.vcm_hardware.proofs.writing.put_balls.Given as goal

abbrev pub invariant-loop-place : goal.invariant-loop-place
invariant-loop-place l = record {
  bytes : l.out.items ++ balls_text l.turning l.tip l.own l.place (drop l.place l.balls) ≡ l.fn.out.items ++ balls_text l.turning l.tip l.own 0 l.balls;
}

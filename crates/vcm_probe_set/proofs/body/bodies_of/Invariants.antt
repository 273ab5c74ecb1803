use Rattle.std.proofs.Common.{◌≡◌, ◌≤◌, ◌++◌, [], take, drop, length}
use Rattle.vcm_probe_set.specs.Bodies.{bodies_behind}
use Rattle.vcm_probe_set.proofs.body.bodies_of.Given as goal

abbrev pub invariant-loop-place : goal.invariant-loop-place
invariant-loop-place l = record {
  few : length l.bodies.items ≤ l.place;
  read : l.bodies.items ++ bodies_behind (take l.place l.boxes) (drop l.place l.boxes) ≡ bodies_behind [] l.boxes;
}

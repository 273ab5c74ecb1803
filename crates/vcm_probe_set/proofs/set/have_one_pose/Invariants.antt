use Rattle.std.proofs.Common.{◌≡◌, drop}
use Rattle.vcm_probe_set.specs.Probes.{have_one_pose}
use Rattle.vcm_probe_set.proofs.set.have_one_pose.Given as goal

abbrev pub invariant-loop-place : goal.invariant-loop-place
invariant-loop-place l = have_one_pose (drop l.place l.probes) ≡ have_one_pose l.probes

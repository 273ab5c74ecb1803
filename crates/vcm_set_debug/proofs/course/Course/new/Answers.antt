use Rattle.std.proofs.Common.{refl, arith}
use Rattle.vcm_set_debug.proofs.course.Course.new.Goals as goal

pub invariant_of-result : goal.invariant_of-result
invariant_of-result g c = (
  record { machine_is = c.in_ok-machine.ensures; going = refl; taken = λ i l. absurd (omega (arith, l)) },
  c.requires.tie,
  c.requires.each,
  c.requires.ties,
  c.requires.limits,
  c.requires.variable,
)

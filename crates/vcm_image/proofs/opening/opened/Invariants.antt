use Rattle.vcm_image.proofs.Openings.{Reading}
use Rattle.vcm_image.proofs.opening.opened.Given as goal

abbrev pub invariant-loop : goal.invariant-loop
invariant-loop l = Reading l.bytes l.opening l.counter l.end

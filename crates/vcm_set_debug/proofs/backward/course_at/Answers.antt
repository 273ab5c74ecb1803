use Rattle.std.proofs.Common.{◌≡◌, true, sym, subst, arith}
use Rattle.vcm_set_debug.specs.Reached.{goes}
use Rattle.vcm_set_debug.proofs.backward.course_at.Goals as goal

pub go_on-requires-clause-goes : goal.go_on-requires-clause-goes
go_on-requires-clause-goes g c = λ i l. subst (λ r. goes r i ≡ true) (sym c.in_ok-other.ensures) (c.known_taken.ensures i (omega (arith, l, c.requires)))

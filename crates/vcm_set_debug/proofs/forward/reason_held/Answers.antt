use Rattle.std.proofs.Common.{◌<◌, sym, ap, ◌∙◌, subst}
use Rattle.vcm_debug.proofs.Coming.{none_of}
use Rattle.vcm_debug.proofs.Stepping.{breaks}
use Rattle.vcm_set_debug.specs.Reached.{machine_at}
use Rattle.vcm_set_debug.proofs.forward.reason_held.Goals as goal

pub returns-then-breakpoints-next : goal.returns-then-breakpoints-next
returns-then-breakpoints-next g c = λ s held.
    breaks c.args.breakpoints.now c.args.watches.now s (machine_at c.args.course.now c.args.course.now.count) c.next.result
    (subst (λ n. c.next.result < n) (sym c.requires.breakpoints) c.next.ensures.within) c.if-breakpoints-next.true c.next.ensures.is
    (sym (ap (λ h. h.stop) c.world.ensures.state) ∙ sym c.stop.ensures ∙ none_of c.stop.result (sym c.if-is_some.ensures))

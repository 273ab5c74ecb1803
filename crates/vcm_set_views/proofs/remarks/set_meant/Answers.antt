use Rattle.std.proofs.Common.{◌≡◌, subst, ◌∙◌}
use Rattle.std.specs.Prelude.{map}
use Rattle.vcm_motion.specs.contracts.any_part.AnyPartPart.TheImpl.{part-value}
use Rattle.vcm_turning.specs.Choosing.{tipped}
use Rattle.vcm_set_views.specs.Fit.{Fit}
use Rattle.vcm_set_views.proofs.remarks.set_meant.Goals as goal

pub meant_beside-requires-clause-ties : goal.meant_beside-requires-clause-ties
meant_beside-requires-clause-ties c =
    rw c.deref-2.ensures.value (subst (λ (f : Fit). map part-value.it c.in_ok-parts.parts.items ≡ map (λ p. tipped f.part p.tip) f.probes) c.fitted.view_is
    (c.in_ok-parts.ensures ∙ c.deref.ensures.value ∙ c.fitted.invariant.1))

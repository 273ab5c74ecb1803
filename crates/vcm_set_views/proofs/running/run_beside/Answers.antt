use Rattle.std.proofs.Common.{◌≡◌, sym, subst, ◌∙◌}
use Rattle.std.specs.Prelude.{map}
use Rattle.vcm_turning.specs.Choosing.{tipped}
use Rattle.vcm_set_views.specs.Fit.{Fit}
use Rattle.vcm_set_views.proofs.running.run_beside.Goals as goal

pub run_machine-requires-clause-each : goal.run_machine-requires-clause-each
run_machine-requires-clause-each g c = rw c.probes.ensures.probes (c.as_slice-each.ensures.value ∙ c.fitted.invariant.1)

pub run_machine-requires-clause-ties : goal.run_machine-requires-clause-ties
run_machine-requires-clause-ties g c =
    subst (λ (f : Fit). map g.P.Part.part c.args.parts.now ≡ map (λ p. tipped f.part p.tip) f.probes) (sym c.fitted.view_is) c.requires.ties
    ∙ sym (c.as_slice-each.ensures.value ∙ c.fitted.invariant.1)

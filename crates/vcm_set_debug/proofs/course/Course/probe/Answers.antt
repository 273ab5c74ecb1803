use Rattle.std.proofs.Common.{ap, ◌∙◌}
use Rattle.vcm_turning.specs.Choosing.{probe_on}
use Rattle.vcm_set_debug.proofs.course.Course.probe.Goals as goal

pub returns : goal.returns
returns g c =
    let i = c.self.inside in
    rw (← c.self.view_is)
    (c.probe_on.ensures ∙ ap (λ ps. probe_on ps c.on.result) c.probes.ensures.probes
    ∙ ap (probe_on i.set.now.probes) (c.on.ensures.is ∙ ap (λ m. m.on) c.self.invariant.0.machine_is))

use Rattle.std.proofs.Common.{◌≡◌, subst}
use Rattle.std.specs.Prelude.{IfOk}
use Rattle.vcm_turning.specs.Machine.{Turner}
use Rattle.vcm_meant.specs.Turned.{IsMeantTurned}
use Rattle.vcm_set_views.specs.Fit.{Fit}
use Rattle.vcm_set_views.proofs.remarks.meant_beside.Goals as goal

pub returns : goal.returns
returns g c =
    let loaded = c.fitted.inside.loaded.now in
    let made = subst (λ (x : Turner). IfOk c.meant_turned.result (λ rs. IsMeantTurned c.args.steps x.part x.probes x.variable loaded rs.items)) c.in_ok-machine.ensures c.meant_turned.ensures in
    subst (λ (f : Fit). IfOk c.meant_turned.result (λ rs. IsMeantTurned c.args.steps f.part f.probes f.variable f.code rs.items)) c.fitted.view_is made

use Rattle.std.proofs.Common.{◌∙◌, ap}
use Rattle.vcm_set_debug.specs.Session.{opened}
use Rattle.vcm_set_views.proofs.Opened.{session_of}
use Rattle.vcm_set_views.proofs.debugging.serve_beside.Goals as goal

pub returns-in-Ok-served-clause-done : goal.returns-in-Ok-served-clause-done
returns-in-Ok-served-clause-done g c =
    session_of c.args.fitted.now _ _ _ _ _ _ _ _ (c.in-Ok.ensures ∙ ap (λ f. opened f.part f.probes f.variable f.code) c.fitted.view_is) c.in-Ok-served.is
    c.serve_set-served.ensures

pub returns-in-Err-served-clause-fault : goal.returns-in-Err-served-clause-fault
returns-in-Err-served-clause-fault g c =
    session_of c.args.fitted.now _ _ _ _ _ _ _ _ (c.in-Ok.ensures ∙ ap (λ f. opened f.part f.probes f.variable f.code) c.fitted.view_is) c.in-Err-served.is
    c.serve_set-served.ensures

use Rattle.std.proofs.Common.{◌≡◌, ◌∙◌, sym, ap, subst}
use Rattle.vcm_spec.specs.Setup.{setup_of}
use Rattle.vcm_spec.specs.World.{opening_world}
use Rattle.vcm_state.proofs.Places.{within_is_near}
use Rattle.vcm_set_views.specs.Fit.{Fit}
use Rattle.vcm_set_views.proofs.Chaining.{if_ok_then}
use Rattle.vcm_set_views.proofs.story.start_of.Goals as goal

pub opening-requires : goal.opening-requires
opening-requires c =
    let valid = c.bounds.ensures.valid in
    rw c.bounds.ensures.bounds (within_is_near c.fitted.inside.part.now valid c.fitted.inside.part.now.bounds.home valid.home)

pub returns-clause-state : goal.returns-clause-state
returns-clause-state c =
    let part = c.fitted.inside.part.now in
    if_ok_then c.opening.result _ _ (λ w h. subst (λ (k : Fit). w.state ≡ opening_world (setup_of k.part k.code.tables)) c.fitted.view_is
    (h part (sym (ap (λ b. b.home) c.bounds.ensures.bounds)) ∙ ap (λ t. opening_world (setup_of part t)) c.in_ok-tables.ensures)) c.opening.ensures.state

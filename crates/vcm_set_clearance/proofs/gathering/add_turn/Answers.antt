use Rattle.std.proofs.Common.{◌≡◌, Some, refl, sym, ap, ◌∙◌, slice_get}
use Rattle.std.proofs.lemmas.Option.{slice_get-get_or}
use Rattle.vcm_set_clearance.specs.Events.{pivot_of}
use Rattle.vcm_set_clearance.proofs.Adding.{added_one}
use Rattle.vcm_set_clearance.proofs.gathering.add_turn.Goals as goal

pub returns-in_ok-push-in-Some : goal.returns-in_ok-push-in-Some
returns-in_ok-push-in-Some c =
    let within = rw c.in-Some.is at c.requires.there in
    let at : slice_get c.args.probes.now c.in-Some.put ≡ Some c.index-probes-put.result =
    slice_get-get_or c.args.probes.now c.in-Some.put c.index-probes-put.result within ∙ ap Some (sym c.index-probes-put.is) in
    rw c.in-Some.is
    (added_one c.args.to.now.is_first _ c.args.to.now.events.items _ _ _ c.in_ok-push-in-Some.ensures.items refl
    (record { step = refl; number = refl; line = refl; from = refl; to = refl; stood = refl; stands = refl; pivot = c.pivot_at-pivot.ensures.is ∙ sym (ap (pivot_of c.args.stands) at) }))

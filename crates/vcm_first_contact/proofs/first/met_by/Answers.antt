use Rattle.std.proofs.Common.{◌≡◌, ◌-◌, Some, None, slice_get, refl, ap, ◌∙◌}
use Rattle.std.specs.Prelude.{unwrap_or}
use Rattle.std.proofs.lemmas.Option.{slice_get_read, slice_get_past}
use Rattle.vcm_num.specs.declared.point.Point.{Point}
use Rattle.vcm_num.specs.Point.{coordinate}
use Rattle.vcm_spec.specs.FirstContact.{fraction, entry}
use Rattle.vcm_motion.proofs.Inside.{block_at}
use Rattle.vcm_carried.specs.Carried.{spread}
use Rattle.vcm_first_contact.proofs.Meeting.{contact_is, none_met, none_stands, one_met}
use Rattle.vcm_first_contact.proofs.first.met_by.Goals as goal

pub share_of-requires-clause-block : goal.share_of-requires-clause-block
share_of-requires-clause-block c =
    let blocks = c.args.blocks.now.blocks in
    let b = c.in-Some-get.block.now in
    let k = c.in-Some-get.ensures.lookup in
    let n = c.saturating_sub.result in
    let read = slice_get_read c.blocks-all.result.now _ n b refl k.3.0 k.1 in
    let at : slice_get blocks n ≡ Some b = (rw c.blocks-all.ensures.blocks at read) in
    block_at blocks n b c.blocks-all.ensures.valid.each at

pub returns-in-None : goal.returns-in-None
returns-in-None c w same =
    let blocks = c.args.blocks.now.blocks in
    let box = c.args.carried.now in
    none_met w box blocks c.args.index
    (contact_is w box blocks c.requires c.blocks-all.ensures.valid.each c.args.gone.now same c.from_ref.result.now c.from_ref.ensures.value None (rw c.blocks-all.ensures.blocks at c.in-None.ensures))

pub returns-in-None-get : goal.returns-in-None-get
returns-in-None-get c w same =
    let blocks = c.args.blocks.now.blocks in
    let box = c.args.carried.now in
    let contact = c.in-Some.contact in
    let told = contact_is w box blocks c.requires c.blocks-all.ensures.valid.each c.args.gone.now same c.from_ref.result.now c.from_ref.ensures.value (Some contact)
    (rw c.blocks-all.ensures.blocks at c.in-Some.ensures) in
    let past = slice_get_past c.blocks-all.result.now c.saturating_sub.result c.in-None-get.ensures.lookup.3 in
    let at : slice_get blocks (contact.hit.block - 1) ≡ None = (rw (c.blocks-all.ensures.blocks, c.saturating_sub.ensures) at past) in
    none_stands w box blocks c.args.index contact told at

pub returns-in-Some-get : goal.returns-in-Some-get
returns-in-Some-get c w same =
    let blocks = c.args.blocks.now.blocks in
    let box = c.args.carried.now in
    let way = c.args.gone.now.way in
    let contact = c.in-Some.contact in
    let told = contact_is w box blocks c.requires c.blocks-all.ensures.valid.each c.args.gone.now same c.from_ref.result.now c.from_ref.ensures.value (Some contact)
    (rw c.blocks-all.ensures.blocks at c.in-Some.ensures) in
    let b = c.in-Some-get.block.now in
    let k = c.in-Some-get.ensures.lookup in
    let read = slice_get_read c.blocks-all.result.now _ c.saturating_sub.result b refl k.3.0 k.1 in
    let at : slice_get blocks (contact.hit.block - 1) ≡ Some b = (rw (c.blocks-all.ensures.blocks, c.saturating_sub.ensures) at read) in
    let share =
    c.share_of.ensures ∙ ap (λ (p : Point). unwrap_or (entry (coordinate p) (coordinate way.to) (spread box b)) (fraction 0 1)) same.from
    ∙ ap (λ (q : Point). unwrap_or (entry (coordinate w.from) (coordinate q) (spread box b)) (fraction 0 1)) same.to in
    one_met w box blocks c.args.index contact told b at _ refl refl share

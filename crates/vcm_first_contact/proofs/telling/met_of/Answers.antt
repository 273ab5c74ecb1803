use Rattle.std.proofs.Common.{◌≡◌, Option, Some, None, slice_get, refl, sym, ap, ◌∙◌}
use Rattle.std.proofs.lemmas.Option.{slice_get_read, slice_get_past}
use Rattle.vcm_boxes.specs.declared.boxes.ProbeBox.{ProbeBox}
use Rattle.vcm_clearance.proofs.Sizes.{box_at}
use Rattle.vcm_first_contact.specs.Lines.{met_of}
use Rattle.vcm_first_contact.proofs.telling.met_of.Goals as goal

pub obstacle_of-requires : goal.obstacle_of-requires
obstacle_of-requires c =
    let b = c.in-Some.tried.now in
    let k = c.in-Some.ensures.lookup in
    let n = c.args.first.now.index in
    let read = slice_get_read c.as_slice.result.now _ n b refl k.3.0 k.1 in
    let at : slice_get c.args.boxes.now n ≡ Some b = (rw c.as_slice.ensures.boxes at read) in
    box_at c.args.boxes.now c.as_slice.ensures.valid n b at

pub returns-in-Some : goal.returns-in-Some
returns-in-Some c =
    let b = c.in-Some.tried.now in
    let k = c.in-Some.ensures.lookup in
    let n = c.args.first.now.index in
    let read = slice_get_read c.as_slice.result.now _ n b refl k.3.0 k.1 in
    let at : slice_get c.args.boxes.now n ≡ Some b = (rw c.as_slice.ensures.boxes at read) in
    c.obstacle_of.ensures ∙ sym (ap (λ (o : Option ProbeBox). met_of c.args.blocks.now o c.args.first.now) at)

pub returns-in-None : goal.returns-in-None
returns-in-None c =
    let n = c.args.first.now.index in
    let past = slice_get_past c.as_slice.result.now n c.in-None.ensures.lookup.3 in
    let at : slice_get c.args.boxes.now n ≡ None = (rw c.as_slice.ensures.boxes at past) in
    sym (ap (λ (o : Option ProbeBox). met_of c.args.blocks.now o c.args.first.now) at)

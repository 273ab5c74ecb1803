use Rattle.std.proofs.Common.{◌≡◌, Some, None, slice_get, refl, sym, ap, ◌∙◌}
use Rattle.std.proofs.lemmas.Option.{slice_get_read, slice_get_past}
use Rattle.vcm_first_contact.specs.Lines.{name_of}
use Rattle.vcm_first_contact.proofs.telling.name_at.Goals as goal

pub returns-in-Some : goal.returns-in-Some
returns-in-Some c =
    let b = c.in-Some.tried.now in
    let k = c.in-Some.ensures.lookup in
    let read = slice_get_read c.as_slice.result.now _ c.args.place b refl k.3.0 k.1 in
    let at : slice_get c.args.boxes.now c.args.place ≡ Some b = (rw c.as_slice.ensures.boxes at read) in
    c.as_bytes.ensures.is ∙ sym (ap name_of at)

pub returns-in-None : goal.returns-in-None
returns-in-None c =
    let past = slice_get_past c.as_slice.result.now c.args.place c.in-None.ensures.lookup.3 in
    let at : slice_get c.args.boxes.now c.args.place ≡ None = (rw c.as_slice.ensures.boxes at past) in
    sym (ap name_of at)

use Rattle.vcm_svg.proofs.notes.put_note.Goals as goal

pub returns : goal.returns
returns c = rw c.note_label.ensures at c.put_text.ensures

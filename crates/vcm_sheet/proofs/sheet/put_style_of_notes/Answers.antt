use Rattle.vcm_sheet.proofs.Mute.{mute_notes}
use Rattle.vcm_sheet.proofs.Saying.{last_mute}
use Rattle.vcm_sheet.proofs.sheet.put_style_of_notes.Goals as goal

pub returns-then-has_notes : goal.returns-then-has_notes
returns-then-has_notes c = last_mute c.put_notes_style.result _ _ _ (mute_notes c.args.unit) c.put_notes_style.ensures

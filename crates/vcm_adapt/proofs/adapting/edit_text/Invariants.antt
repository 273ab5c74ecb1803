use Rattle.vcm_adapt.proofs.Steps.{IsWritten}
use Rattle.vcm_adapt.proofs.adapting.edit_text.Given as goal

abbrev pub invariant-edits : goal.invariant-edits
invariant-edits l = IsWritten l.edits l.text l.edit-index l.out.items l.rest

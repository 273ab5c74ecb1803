use Rattle.std.specs.Vec.Iter.{into_iter_items}
use Rattle.vcm_survey.proofs.Turns.{AreEdited}
use Rattle.vcm_survey.proofs.adapting.line_edits.Given as goal

abbrev pub invariant-owners : goal.invariant-owners
invariant-owners l = AreEdited l.owners (into_iter_items l.initial.edits) l.owner-index l.out.items (into_iter_items l.edits) l.is_kept

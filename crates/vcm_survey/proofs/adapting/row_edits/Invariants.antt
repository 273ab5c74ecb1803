use Rattle.std.specs.Vec.Iter.{into_iter_items, into_iter_len}
use Rattle.vcm_survey.proofs.Turns.{AreTaken}
use Rattle.vcm_survey.proofs.adapting.row_edits.Given as goal

abbrev pub invariant-rows : goal.invariant-rows
invariant-rows l = AreTaken (into_iter_items l.initial.row-iterator) l.yielded (into_iter_items l.row-iterator) (into_iter_len l.row-iterator) l.edits.items

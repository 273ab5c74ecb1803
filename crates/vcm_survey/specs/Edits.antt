-- What becomes of each line of a text, by what becomes of its statements.
use Rattle.std.specs.Prelude.{ℕ, Bool, true, false, List, [], ◌∷◌, map}
use Rattle.vcm_adapt.specs.declared.edit.Edit.{Edit}
use Rattle.vcm_adapt.specs.declared.edit.Edit.TheVariants.{Keep, LeaveOut, Put}
use Rattle.vcm_adapt.specs.Adapted.{adapted}
use Rattle.vcm_classes.specs.declared.judging.Row.{Row}
use Rattle.vcm_sentences.specs.declared.sentences.Owner.{Owner}
use Rattle.vcm_sentences.specs.declared.sentences.Owner.TheVariants.{Nobody, First, Other}

-- the line stays as it is
abbrev pub keeps : Edit → Bool
keeps Keep = true
keeps _ = false

-- what becomes of a further line of a statement, whose first one stays or not
abbrev pub further : Bool → Edit
further true = Keep
further false = LeaveOut

-- what becomes of each line: one that belongs to no statement stays, the first line of a statement becomes what the statement does, and the others
-- stay with the first or become comments
abbrev pub line_edits : List Owner → List Edit → Bool → List Edit
line_edits [] es k = []
line_edits (Nobody ∷ os) es k = Keep ∷ line_edits os es k
line_edits (Other ∷ os) es k = further k ∷ line_edits os es k
line_edits (First ∷ os) [] k = Keep ∷ line_edits os [] true
line_edits (First ∷ os) (e ∷ es) k = e ∷ line_edits os es (keeps e)

-- what becomes of statements, by their rows
abbrev pub row_edits : List Row → List Edit
row_edits rows = map (λ r. r.edit) rows

-- the text that a text is adapted to, by the owners of its lines and the rows of its statements
abbrev pub adapted_by : List Owner → List Row → List ℕ → List ℕ
adapted_by owners rows text = adapted (line_edits owners (row_edits rows) true) text

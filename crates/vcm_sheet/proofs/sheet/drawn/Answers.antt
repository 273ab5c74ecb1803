use Rattle.vcm_sheet.proofs.sheet.drawn.Goals as goal

pub returns : goal.returns
returns c = rw c.scope_of-scope.ensures at c.drawing_of.ensures.drawn

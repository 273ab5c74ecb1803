use Rattle.std.proofs.Common.{◌≡◌, ◌+◌, length}
use Rattle.vcm_marks.specs.Pieces.{pieces}
use Rattle.vcm_way.proofs.way.pieces_of.Given as goal

abbrev pub decreases-loop-first : goal.decreases-loop-first
decreases-loop-first l = length l.rest

abbrev pub invariant-loop-first : goal.invariant-loop-first
invariant-loop-first l = l.count + pieces l.rest ≡ pieces l.marks

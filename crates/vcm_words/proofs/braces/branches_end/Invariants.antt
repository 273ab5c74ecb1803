use Rattle.std.proofs.Common.{length}
use Rattle.vcm_words.specs.Branches.{branch_in}
use Rattle.vcm_words.proofs.SliceLaws.{IsRead}
use Rattle.vcm_words.proofs.braces.branches_end.Given as goal

abbrev pub decreases-loop-word : goal.decreases-loop-word
decreases-loop-word l = length l.rest

abbrev pub invariant-loop-word : goal.invariant-loop-word
invariant-loop-word l = IsRead 125 (branch_in l.exact) 20000 l.words l.rest l.count

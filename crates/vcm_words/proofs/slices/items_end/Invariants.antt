use Rattle.std.proofs.Common.{length}
use Rattle.vcm_words.specs.Items.{item_in}
use Rattle.vcm_words.proofs.SliceLaws.{IsRead}
use Rattle.vcm_words.proofs.slices.items_end.Given as goal

abbrev pub decreases-loop-word : goal.decreases-loop-word
decreases-loop-word l = length l.rest

abbrev pub invariant-loop-word : goal.invariant-loop-word
invariant-loop-word l = IsRead 93 (item_in l.exact) 1024 l.words l.rest l.count

use Rattle.std.proofs.Common.{◌≡◌, length, Some}
use Rattle.vcm_blocks.specs.Words.{turned_all, between_commas, turn_of}
use Rattle.vcm_blocks.proofs.words.turn_word.Given as goal

abbrev pub invariant-loop-front : goal.invariant-loop-front
invariant-loop-front l = turned_all (Some l.turn) (between_commas l.rest) ≡ turn_of l.word

abbrev pub decreases-loop-front : goal.decreases-loop-front
decreases-loop-front l = length l.rest

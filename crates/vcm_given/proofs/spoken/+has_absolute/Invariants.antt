use Rattle.std.proofs.Common.{length}
use Rattle.vcm_given.proofs.spoken.+has_absolute.Given as goal

abbrev pub decreases-has_absolute : goal.decreases-has_absolute
decreases-has_absolute l = length l.words.now

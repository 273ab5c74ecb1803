use Rattle.std.proofs.Common.{◌≡◌, ◌++◌, ◌∷◌, length, map}
use Rattle.vcm_num.specs.Lines.{whole_lines}
use Rattle.vcm_survey.proofs.listing.whole_lines.Given as goal

abbrev pub invariant-lines : goal.invariant-lines
invariant-lines l = record { whole : map (λ s. s.now) l.lines.items ++ whole_lines l.rest ≡ whole_lines l.fn.text }

abbrev pub decreases-lines : goal.decreases-lines
decreases-lines l = length l.rest

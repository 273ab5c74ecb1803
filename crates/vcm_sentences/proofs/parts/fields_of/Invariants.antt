use Rattle.std.proofs.Common.{length, map}
use Rattle.vcm_sentences.proofs.Fielding.{AreFields}
use Rattle.vcm_sentences.proofs.parts.fields_of.Given as goal

abbrev pub invariant-fields : goal.invariant-fields
invariant-fields l = AreFields l.rest (map (λ f. f.now) l.fields.items) l.left l.end

abbrev pub decreases-fields : goal.decreases-fields
decreases-fields l = length l.left

-- What the code says of the first segment of what is left of a line.
use Rattle.std.specs.Prelude.{◌≡◌, ℕ, Bool, List, ◌∷◌, ◌++◌}
use Rattle.vcm_lines.specs.Segments.{Segment, segments_of, kept, is_dollar}

-- the rest has the segments behind the first, what that leaves is added, and it is a dollar or not
pub record PutsSegment (segments : List Segment) (goes_on : Bool) (old new rest : List ℕ) : Type 0 where
  pub segment : Segment
  pub first : segments ≡ segment ∷ segments_of rest
  pub dollar : is_dollar segment ≡ goes_on
  pub added : new ≡ old ++ kept segment

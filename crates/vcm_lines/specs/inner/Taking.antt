-- What the code says of the first segment of what is left of a line.
use Rattle.std.specs.Prelude.{◌≡◌, ℕ, Bool, false, not, ◌&&◌, ◌==◌, List, ◌∷◌, ◌++◌, map, drop, length}
use Rattle.std.specs.List.{take_while}
use Rattle.vcm_lines.specs.Bytes.{is_between, upper}
use Rattle.vcm_lines.specs.Segments.{Segment, segments_of, kept, has_bad_byte, is_open, is_dollar}

-- the first of the segments breaks no rule, the rest has the other segments, and what the segment leaves is added
pub record TakesSegment (segments : List Segment) (old new rest : List ℕ) : Type 0 where
  pub segment : Segment
  pub first : segments ≡ segment ∷ segments_of rest
  pub bytes : has_bad_byte segment ≡ false
  pub closed : is_open segment ≡ false
  pub undollared : is_dollar segment ≡ false
  pub added : new ≡ old ++ kept segment

-- a byte that a line keeps outside its texts: none that is blank, a dollar, an apostrophe, or may not stand there
abbrev pub is_bare : ℕ → Bool
is_bare b = is_between 33 126 b && not (b == 36) && not (b == 39)

-- the bare bytes at the front are added in upper case, and the rest is what stands behind them
pub record TakesBare (line old new rest : List ℕ) : Type 0 where
  pub added : new ≡ old ++ map upper (take_while is_bare line)
  pub behind : rest ≡ drop (length (take_while is_bare line)) line

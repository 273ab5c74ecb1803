-- A line in segments: its texts, its comment, and each byte outside them.
use Rattle.std.specs.Prelude.{ℕ, ◌==◌, ◌||◌, ◌&&◌, not, Bool, true, false, List, [], ◌∷◌, ◌++◌, if◌then◌else◌}
use Rattle.std.specs.List.{flat_map, list_any, list_all}
use Rattle.vcm_lines.specs.Bytes.{is_blank, is_plain, is_inner, upper}

-- a segment of a line
pub data Segment : Type 0 where
  -- a byte outside texts and comments
  Plain : ℕ → Segment
  -- a text, without its apostrophes
  Quoted : List ℕ → Segment
  -- a text that isn't closed, without its apostrophe
  Open : List ℕ → Segment
  -- a comment, without its two dollars
  Comment : List ℕ → Segment

-- one more byte in front of the text that the segments begin with
abbrev pub onto_text : ℕ → List Segment → List Segment
onto_text b (Quoted t ∷ ps) = Quoted (b ∷ t) ∷ ps
onto_text b (Open t ∷ ps) = Open (b ∷ t) ∷ ps
onto_text b ps = ps

-- the segments of what is left of a line, which begins inside a text (true) or outside
unfoldable pub segments_from : Bool → List ℕ → List Segment
segments_from true [] = Open [] ∷ []
segments_from true (b ∷ bs) = if b == 39 then Quoted [] ∷ segments_from false bs else onto_text b (segments_from true bs)
segments_from false [] = []
segments_from false (b ∷ []) = if b == 39 then Open [] ∷ [] else Plain b ∷ []
segments_from false (b ∷ c ∷ bs) =
    if b == 39 then segments_from true (c ∷ bs)
    else if b == 36 && c == 36 then Comment bs ∷ []
    else Plain b ∷ segments_from false (c ∷ bs)

-- the segments of a whole line
abbrev pub segments_of : List ℕ → List Segment
segments_of line = segments_from false line

-- what a segment leaves in the statement
abbrev pub kept : Segment → List ℕ
kept (Plain b) = if is_blank b || b == 36 then [] else upper b ∷ []
kept (Quoted t) = 39 ∷ t ++ 39 ∷ []
kept (Open t) = []
kept (Comment t) = []

-- the segment has a byte that may not stand where it does
abbrev pub has_bad_byte : Segment → Bool
has_bad_byte (Plain b) = not (is_plain b)
has_bad_byte (Quoted t) = not (list_all is_inner t)
has_bad_byte (Open t) = not (list_all is_inner t)
has_bad_byte (Comment t) = not (list_all is_inner t)

-- the segment is a text that isn't closed
abbrev pub is_open : Segment → Bool
is_open (Open t) = true
is_open _ = false

-- the segment is a single dollar
abbrev pub is_dollar : Segment → Bool
is_dollar (Plain b) = b == 36
is_dollar _ = false

-- the segment falls away: it is a blank or a comment
abbrev pub is_skipped : Segment → Bool
is_skipped (Plain b) = is_blank b
is_skipped (Comment t) = true
is_skipped _ = false

-- there is a dollar behind which something stands that doesn't fall away
unfoldable pub has_stray_dollar : List Segment → Bool
has_stray_dollar [] = false
has_stray_dollar (p ∷ ps) = (is_dollar p && not (list_all is_skipped ps)) || has_stray_dollar ps

-- the bytes that a line gives its statement, without the dollar that ends it
abbrev pub text_of : List ℕ → List ℕ
text_of line = flat_map kept (segments_of line)

-- the line has a dollar, which ends it if it isn't astray
abbrev pub continues : List ℕ → Bool
continues line = list_any is_dollar (segments_of line)

-- The lines of a text, and the mark that an old line stands behind.
use Rattle.std.specs.Prelude.{ℕ, ◌==◌, ◌&&◌, ◌||◌, not, Bool, false, List, [], ◌∷◌, drop, if◌then◌else◌}
use Rattle.std.specs.List.{flat_map, list_any}
use Rattle.vcm_num.specs.Lines.{whole_lines}

-- the mark: two dollars, a minus, a blank
abbrev pub mark : List ℕ
mark = 36 ∷ 36 ∷ 45 ∷ 32 ∷ []

-- the bytes begin with the mark
unfoldable pub begins_mark : List ℕ → Bool
begins_mark (a ∷ b ∷ c ∷ d ∷ bs) = a == 36 && (b == 36 && (c == 45 && d == 32))
begins_mark _ = false

-- there is a mark in the bytes
unfoldable pub has_mark : List ℕ → Bool
has_mark [] = false
has_mark (b ∷ bs) = begins_mark (b ∷ bs) || has_mark bs

-- what stands behind the first mark of the bytes; this line where they have none
unfoldable pub behind_mark : List ℕ → List ℕ → List ℕ
behind_mark line [] = line
behind_mark line (b ∷ bs) = if begins_mark (b ∷ bs) then drop 4 (b ∷ bs) else behind_mark line bs

-- a line that is taken back: what stands behind its first mark, or the line itself
abbrev pub restored_line : List ℕ → List ℕ
restored_line line = behind_mark line line

-- a text that is taken back
abbrev pub restored : List ℕ → List ℕ
restored text = flat_map restored_line (whole_lines text)

-- the bytes begin with the mark without its blank
unfoldable pub begins_sign : List ℕ → Bool
begins_sign (a ∷ b ∷ c ∷ bs) = a == 36 && (b == 36 && c == 45)
begins_sign _ = false

-- there is one in the bytes
unfoldable pub has_sign : List ℕ → Bool
has_sign [] = false
has_sign (b ∷ bs) = begins_sign (b ∷ bs) || has_sign bs

-- bytes that may stand for a line
abbrev pub is_new : List ℕ → Bool
is_new new = not (has_sign new) && not (list_any (λ b. b == 10) new)

-- The bytes of the output lines that a program prints with TEXT.
use Rattle.std.specs.Prelude.{ℕ, ◌==◌, ◌&&◌, ◌||◌, not, nat_le, Bool, IsTrue, List, length}
use Rattle.std.specs.List.{list_all}
use Rattle.vcm_num.specs.declared.limits.TheConstants.{LONGEST_TEXT}

-- the tab, and all from 32 to 255 but the apostrophe and 127
abbrev pub is_text_byte : ℕ → Bool
is_text_byte b = b == 9 || (nat_le 32 b && nat_le b 255 && not (b == 39) && not (b == 127))

-- whether so many bytes are a text: at most 1,024, each of which may stand in one
abbrev pub is_text : List ℕ → Bool
is_text bs = nat_le (length bs) LONGEST_TEXT && list_all is_text_byte bs

-- the bytes are a text
abbrev pub IsText : List ℕ → Type 0
IsText bs = IsTrue (is_text bs)

-- Statements about long names. Each is a clause of a law in src/laws.rt.
use Rattle.std.specs.Prelude.{◌≡◌, ℕ, Bool, true, false, not, ◌&&◌, List, [], ◌∷◌}
use Rattle.std.specs.List.{list_any, list_all, flat_map}
use Rattle.vcm_items.specs.NameBytes.{is_name}
use Rattle.vcm_short_names.specs.declared.short.ShortName.{ShortName}
use Rattle.vcm_short_names.specs.Pieces.{pieces, words}
use Rattle.vcm_short_names.specs.Short.{is_long, is_same, short_names, shortened}
use Rattle.vcm_short_names.specs.Lengthened.{is_short, lengthened}

-- the pieces of a text, one behind the other, are the text
abbrev pub PiecesAreTheText : Type 0
PiecesAreTheText = (text : List ℕ) → flat_map (λ p. p.bytes) (pieces text) ≡ text

-- a text without a long word has no names
abbrev pub ShortTextsHaveNoNames : Type 0
ShortTextsHaveNoNames = (text : List ℕ) → list_any is_long (words text) ≡ false → short_names text ≡ []

-- and it stays as it is
abbrev pub ShortTextsStay : Type 0
ShortTextsStay = (text : List ℕ) → list_any is_long (words text) ≡ false → shortened text ≡ text

-- whether no two of these short names are the same
abbrev pub are_apart : List ShortName → Bool
are_apart [] = true
are_apart (n ∷ names) = not (list_any (λ m. is_same n.short m.short) names) && are_apart names

-- no two long names get the same short one
abbrev pub NamesAreApart : Type 0
NamesAreApart = (text : List ℕ) → are_apart (short_names text) ≡ true

-- whether a short name is no word of a text
abbrev pub is_no_word : List (List ℕ) → ShortName → Bool
is_no_word ws n = not (list_any (λ w. is_same w n.short) ws)

-- no long name gets a word of the text
abbrev pub NamesAreNoWords : Type 0
NamesAreNoWords = (text : List ℕ) → list_all (is_no_word (words text)) (short_names text) ≡ true

-- each short name is a name of the language
abbrev pub ShortNamesAreNames : Type 0
ShortNamesAreNames = (text : List ℕ) → list_all (λ n. is_name n.short) (short_names text) ≡ true

-- where names are written long, a text none of whose words is one of the short names stays as it is
abbrev pub OtherWordsStay : Type 0
OtherWordsStay = (names : List ShortName) (text : List ℕ) → list_any (is_short names) (words text) ≡ false → lengthened names text ≡ text

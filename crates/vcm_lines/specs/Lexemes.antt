-- The words of a statement as a list: what each of them says, without its place in the text.
use Rattle.std.specs.Prelude.{ℕ, ◌-◌, ◌==◌, ◌&&◌, Bool, true, false, nat_le, if◌then◌else◌, List, [], ◌∷◌, length, slice_range}
use Rattle.std.specs.Option.{is_some}
use Rattle.vcm_num.specs.Words.{look_up}
use Rattle.vcm_lines.specs.Dotted.{dotted_words}
use Rattle.vcm_lines.specs.declared.logical.Word.{Word}
use Rattle.vcm_lines.specs.declared.logical.WordKind.{WordKind}
use Rattle.vcm_lines.specs.declared.logical.WordKind.TheVariants.{Run as RunKind, Number as NumberKind, Quoted as QuotedKind}
use Rattle.vcm_lines.specs.declared.logical.WordKind.TheVariants.{Mark as MarkKind, Dotted as DottedKind}
use Rattle.vcm_lines.specs.declared.phrase.Token.{Token}
use Rattle.vcm_lines.specs.declared.phrase.Token.TheVariants.{Run as RunToken, Number as NumberToken, Dotted as DottedToken}
use Rattle.vcm_lines.specs.declared.phrase.Token.TheVariants.{Quoted as QuotedToken, Slash as SlashToken}
use Rattle.vcm_lines.specs.declared.phrase.Token.TheVariants.{Comma as CommaToken, Equals as EqualsToken, Open as OpenToken}
use Rattle.vcm_lines.specs.declared.phrase.Token.TheVariants.{Close as CloseToken, Plus as PlusToken}
use Rattle.vcm_lines.specs.declared.phrase.Token.TheVariants.{Minus as MinusToken, Star as StarToken, Other as OtherToken}

-- what a word of a statement says
pub data Lexeme : Type 0 where
  -- letters, digits and underscores
  Run : List ℕ → Lexeme
  -- digits with a point
  Number : List ℕ → Lexeme
  -- a point and letters, and the point behind them if there is one
  Dotted : List ℕ → Lexeme
  -- a text, what stands between its apostrophes
  Quoted : List ℕ → Lexeme
  Slash : Lexeme
  Comma : Lexeme
  Equals : Lexeme
  Open : Lexeme
  Close : Lexeme
  Plus : Lexeme
  Minus : Lexeme
  Star : Lexeme
  -- any other mark
  Other : Lexeme

-- the bytes of a word, none where its span isn't one of the text
abbrev pub word_bytes : List ℕ → Word → List ℕ
word_bytes text w = if nat_le w.start w.end && nat_le w.end (length text) then slice_range text w.start w.end else []

-- what stands between the first and the last byte
abbrev pub unquoted : List ℕ → List ℕ
unquoted bs = if nat_le 2 (length bs) then slice_range bs 1 (length bs - 1) else []

-- what the byte of a mark says
abbrev pub mark_of : ℕ → Lexeme
mark_of b =
    if b == 47 then Slash
    else if b == 44 then Comma
    else if b == 61 then Equals
    else if b == 40 then Open
    else if b == 41 then Close
    else if b == 43 then Plus
    else if b == 45 then Minus
    else if b == 42 then Star
    else Other

-- what a mark says, by its first byte
abbrev pub mark_in : List ℕ → Lexeme
mark_in [] = Other
mark_in (b ∷ bs) = mark_of b

-- what a word of this kind and these bytes says
abbrev pub lexeme_of : WordKind → List ℕ → Lexeme
lexeme_of RunKind bs = Run bs
lexeme_of NumberKind bs = Number bs
lexeme_of DottedKind bs = Dotted bs
lexeme_of QuotedKind bs = Quoted (unquoted bs)
lexeme_of MarkKind bs = mark_in bs

-- what a word of a text says
abbrev pub word_lexeme : List ℕ → Word → Lexeme
word_lexeme text w = lexeme_of w.kind (word_bytes text w)

-- what the words of a text say, one by one
abbrev pub lexemes : List ℕ → List Word → List Lexeme
lexemes text [] = []
lexemes text (w ∷ ws) = word_lexeme text w ∷ lexemes text ws

-- what a token of the code says
abbrev pub lexeme : Token → Lexeme
lexeme (RunToken b) = Run b.now
lexeme (NumberToken b) = Number b.now
lexeme (DottedToken b) = Dotted b.now
lexeme (QuotedToken b) = Quoted b.now
lexeme SlashToken = Slash
lexeme CommaToken = Comma
lexeme EqualsToken = Equals
lexeme OpenToken = Open
lexeme CloseToken = Close
lexeme PlusToken = Plus
lexeme MinusToken = Minus
lexeme StarToken = Star
lexeme OtherToken = Other

-- whether a word, if it is a dotted one, is one that there is
abbrev pub is_spelled : Lexeme → Bool
is_spelled (Dotted bs) = is_some (look_up dotted_words bs)
is_spelled _ = true

-- whether a word is a parenthesis
abbrev pub is_parenthesis : Lexeme → Bool
is_parenthesis Open = true
is_parenthesis Close = true
is_parenthesis _ = false

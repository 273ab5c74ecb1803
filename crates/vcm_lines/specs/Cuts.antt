-- How words are cut at a mark.
use Rattle.std.specs.Prelude.{Bool, true, false, if◌then◌else◌, List, [], ◌∷◌, ◌++◌, Option, Some, None}
use Rattle.std.specs.List.{list_any}
use Rattle.vcm_lines.specs.declared.phrase.Cutter.{Cutter}
use Rattle.vcm_lines.specs.declared.phrase.Cutter.TheVariants.{AtSlash, AtComma}
use Rattle.vcm_lines.specs.Lexemes.{Lexeme, Slash, Comma, Other}

-- whether words are cut at this one
abbrev pub cuts : Cutter → Lexeme → Bool
cuts AtSlash Slash = true
cuts AtComma Comma = true
cuts _ _ = false

-- the words before the first mark, all of them where there is none
abbrev pub before : Cutter → List Lexeme → List Lexeme
before m [] = []
before m (w ∷ ws) = if cuts m w then [] else w ∷ before m ws

-- the words after the first mark
abbrev pub after : Cutter → List Lexeme → Option (List Lexeme)
after m [] = None
after m (w ∷ ws) = if cuts m w then Some ws else after m ws

-- one more word in front of the first part
abbrev pub onto : Lexeme → List (List Lexeme) → List (List Lexeme)
onto w [] = (w ∷ []) ∷ []
onto w (f ∷ fs) = (w ∷ f) ∷ fs

-- the parts between commas
abbrev pub fields_of : List Lexeme → List (List Lexeme)
fields_of [] = [] ∷ []
fields_of (w ∷ ws) = if cuts AtComma w then [] ∷ fields_of ws else onto w (fields_of ws)

-- the last word
abbrev pub last_of : List Lexeme → Lexeme
last_of [] = Other
last_of (w ∷ []) = w
last_of (w ∷ v ∷ ws) = last_of (v ∷ ws)

-- the words before the last one
abbrev pub front_of : List Lexeme → List Lexeme
front_of [] = []
front_of (w ∷ []) = []
front_of (w ∷ v ∷ ws) = w ∷ front_of (v ∷ ws)

-- the mark that words are cut at
abbrev pub mark_at : Cutter → Lexeme
mark_at AtSlash = Slash
mark_at AtComma = Comma

-- what words are cut from: the front, and where there is a rest, the mark and the rest behind it
abbrev pub uncut : Cutter → List Lexeme → Option (List Lexeme) → List Lexeme
uncut m front None = front
uncut m front (Some rest) = front ++ mark_at m ∷ rest

-- what the parts between commas are cut from
abbrev pub with_commas : List (List Lexeme) → List Lexeme
with_commas [] = []
with_commas (f ∷ []) = f
with_commas (f ∷ g ∷ fs) = f ++ Comma ∷ with_commas (g ∷ fs)

-- whether one of the words is a mark that they are cut at
abbrev pub has_cut : Cutter → List Lexeme → Bool
has_cut m ws = list_any (cuts m) ws

-- The lines of a listing.
use Rattle.std.specs.Prelude.{ℕ, suc, ◌^◌, Bool, true, false, List, [], ◌∷◌, ◌++◌, flat_map, Option, Some, None, codes}
use Rattle.vcm_num.specs.declared.number.Kind.{Kind}
use Rattle.vcm_num.specs.declared.number.Kind.TheVariants.{Int, Real, Bool as Truth}
use Rattle.vcm_spec.specs.declared.expression.Item.{Item}
use Rattle.vcm_code.specs.declared.branch.Branch.{Branch}
use Rattle.vcm_code.specs.declared.code.Code.{Code}
use Rattle.vcm_code.specs.declared.version.Version.{Version}
use Rattle.vcm_code.specs.declared.version.Version.TheVariants.{One, Two}
use Rattle.vcm_spec.specs.Setup.{Variable as Entry}
use Rattle.vcm_items.specs.NameBytes.{is_name, is_variable_name}
use Rattle.vcm_code.specs.Code.{CodeStatement}
use Rattle.vcm_code.specs.Shape.{kinds}
use Rattle.vcm_words.specs.declared.row.Row.{Row}
use Rattle.vcm_words.specs.declared.row.Row.TheVariants.{Head, Variable, Feature, Frame, Numbered}
use Rattle.vcm_words.specs.declared.row.Heading.{Heading}
use Rattle.vcm_words.specs.declared.row.Heading.TheVariants as headings
use Rattle.vcm_words.specs.Cutting.{split, joined}
use Rattle.vcm_words.specs.Numbers.{only_if, is_figures}
use Rattle.vcm_num.specs.Words.{look_up}
use Rattle.vcm_words.specs.WordReaders.{Reader, one, both, via, ended, rows_of}
use Rattle.vcm_words.specs.Operands.{single, number_text, number_at, line, line_at}

-- a line, with its items, texts and branches as lists
abbrev pub ListRow : Type 0
ListRow = Row (List Item) (List ℕ) (List Branch)

-- ---- writing

-- the number of a version
abbrev pub version_text : Version → List ℕ
version_text One = codes "1"
version_text Two = codes "2"

-- the versions
abbrev pub versions : List Version
versions = One ∷ Two ∷ []

-- the word of a kind
abbrev pub kind_text : Kind → List ℕ
kind_text Int = codes "INTGR"
kind_text Real = codes "REAL"
kind_text Truth = codes "BOOL"

-- the word that a line begins with, where it is no statement
abbrev pub heading_text : Heading → List ℕ
heading_text headings.Head = codes "VCM-LISTING"
heading_text headings.Variables = codes "VAR"
heading_text headings.Features = codes "FEATURE"
heading_text headings.Frames = codes "FRAME"

-- these lines
abbrev pub all_headings : List Heading
all_headings = headings.Head ∷ headings.Variables ∷ headings.Features ∷ headings.Frames ∷ []

-- the words of a line
abbrev pub row_words : ListRow → List (List ℕ)
row_words (Head version) = heading_text headings.Head ∷ single (version_text version)
row_words (Variable i v) = heading_text headings.Variables ∷ (number_text i ++ (single (kind_text v.kind) ++ (single v.name ++ number_text v.expansion)))
row_words (Feature i name) = heading_text headings.Features ∷ (number_text i ++ single name)
row_words (Frame i name) = heading_text headings.Frames ∷ (number_text i ++ single name)
row_words (Numbered n s) = number_text n ++ line s

-- a line, without its end
unfoldable pub row_text : ListRow → List ℕ
row_text r = joined 32 (row_words r)

-- each with its index
abbrev pub numbered : {A : Type 0} → (ℕ → A → ListRow) → ℕ → List A → List ListRow
numbered f n [] = []
numbered f n (x ∷ xs) = f n x ∷ numbered f (suc n) xs

-- the lines of a code: the head, the tables, the statements
abbrev pub rows : Code → List ListRow
rows c =
    Head c.version ∷ (numbered Variable 0 c.tables.variables
    ++ (numbered Feature 0 c.tables.features ++ (numbered Frame 0 c.tables.frames ++ numbered Numbered 0 c.statements)))

-- the lines with their ends
abbrev pub text_of : List ListRow → List ℕ
text_of rs = flat_map (λ r. row_text r ++ 10 ∷ []) rs

-- the listing of a code
abbrev pub listing : Code → List ℕ
listing c = text_of (rows c)

-- ---- reading

-- reading a name
abbrev pub name_at : Reader (List ℕ)
name_at = one (λ w. only_if (is_name w) w)

-- reading the name of a variable
abbrev pub variable_name_at : Reader (List ℕ)
variable_name_at = one (λ w. only_if (is_variable_name w) w)

-- the version with this number, or the shape of a number in its place
abbrev pub version_in : Bool → List ℕ → Option Version
version_in true w = look_up (rows_of version_text versions) w
version_in false w = only_if (is_figures w) One

-- reading the number of a version
abbrev pub version_at : Bool → Reader Version
version_at exact = one (version_in exact)

-- reading a variable behind its word: its index, its kind, its name, its expansion
unfoldable pub entry_at : Bool → Reader (ℕ × Entry)
entry_at exact =
    via (λ o. (o.0, record { name = o.1.1.0; kind = o.1.0; expansion = o.1.1.1 }))
    (both (number_at exact (2 ^ 32)) (both (one (look_up (rows_of kind_text kinds))) (both variable_name_at (number_at exact (2 ^ 32)))))

-- reading the index and the name of a feature or a frame
unfoldable pub indexed_at : Bool → Reader (ℕ × List ℕ)
indexed_at exact = both (number_at exact (2 ^ 32)) name_at

-- reading a statement of a version and its number
unfoldable pub numbered_at : Version → Bool → Reader (ℕ × CodeStatement)
numbered_at version exact = both (number_at exact (2 ^ 32)) (line_at version exact)

-- the line whose first word has this heading, or none: then it is a statement's
unfoldable pub row_after : Version → Bool → Option Heading → List ℕ → List (List ℕ) → Option ListRow
row_after version exact (Some headings.Head) w ws = ended (via Head (version_at exact) ws)
row_after version exact (Some headings.Variables) w ws = ended (via (λ o. Variable o.0 o.1) (entry_at exact) ws)
row_after version exact (Some headings.Features) w ws = ended (via (λ o. Feature o.0 o.1) (indexed_at exact) ws)
row_after version exact (Some headings.Frames) w ws = ended (via (λ o. Frame o.0 o.1) (indexed_at exact) ws)
row_after version exact None w ws = ended (via (λ o. Numbered o.0 o.1) (numbered_at version exact) (w ∷ ws))

-- the line of these words
abbrev pub row_at : Version → Bool → List (List ℕ) → Option ListRow
row_at version exact [] = None
row_at version exact (w ∷ ws) = row_after version exact (look_up (rows_of heading_text all_headings) w) w ws

-- a line of a listing of this version, read exactly or only for its shape
unfoldable pub row_of : Version → Bool → List ℕ → Option ListRow
row_of version exact bytes = row_at version exact (split 32 bytes)

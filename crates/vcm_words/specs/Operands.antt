-- The operands of statements in a listing.
use Rattle.std.specs.Prelude.{ℕ, ◌==◌, ◌^◌, ◌&&◌, nat_le, Bool, if◌then◌else◌, List, [], ◌∷◌, ◌++◌, length, Option, Some, None, decimal}
use Rattle.std.specs.Prelude.{codes}
use Rattle.std.specs.List.{list_all}
use Rattle.vcm_num.specs.declared.axis.Axis.{Axis}
use Rattle.vcm_num.specs.declared.axis.Axis.TheVariants.{PlusX, MinusX, PlusY, MinusY, PlusZ, MinusZ}
use Rattle.vcm_spec.specs.declared.words.Setting.{Setting}
use Rattle.vcm_spec.specs.declared.words.Setting.TheVariants.{Approach, Retract, Search, Depth}
use Rattle.vcm_spec.specs.declared.words.Source.{Source}
use Rattle.vcm_spec.specs.declared.words.Source.TheVariants.{Nominal, Actual}
use Rattle.vcm_spec.specs.declared.words.FrameAxis.{FrameAxis}
use Rattle.vcm_spec.specs.declared.words.FrameAxis.TheVariants as frame_axis
use Rattle.vcm_spec.specs.declared.words.Quarters.{Quarters}
use Rattle.vcm_spec.specs.declared.words.Quarters.TheVariants as quarter
use Rattle.vcm_spec.specs.declared.words.FeatureWord.{FeatureWord}
use Rattle.vcm_spec.specs.declared.words.FeatureWord.TheVariants as feature_word
use Rattle.vcm_spec.specs.Words.{quarters_number, word_number}
use Rattle.vcm_code.specs.declared.word.Word.{Word}
use Rattle.vcm_code.specs.declared.version.Version.{Version}
use Rattle.vcm_code.specs.Code.{Op, CodeStatement}
use Rattle.vcm_code.specs.Words.{word_of, has_word, word_text, word_rows}
use Rattle.vcm_code.specs.Shape.{Place, Said, Filled, axes, directions, settings, sources, frame_axes, made, Form, form, form_of, over_operands}
use Rattle.vcm_code.specs.Shape as at
use Rattle.vcm_spec.specs.TextBytes.{is_text_byte}
use Rattle.vcm_spec.specs.declared.expression.Item.{Item}
use Rattle.vcm_words.specs.Cutting.{split, joined}
use Rattle.vcm_words.specs.Numbers.{number, counted, only_if}
use Rattle.vcm_num.specs.Words.{look_up}
use Rattle.vcm_words.specs.WordReaders.{◌>>=◌, Reader, now, one, both, via, after, tested, marked, ending, Spelling, named}
use Rattle.vcm_words.specs.Items.{expression, expression_at}
use Rattle.vcm_words.specs.Branches.{branches, branches_at}
use Rattle.vcm_num.specs.declared.limits.TheConstants.{DEEPEST_BLOCKS, LONGEST_TEXT}

-- ---- single words

-- one word
abbrev pub single : List ℕ → List (List ℕ)
single w = w ∷ []

-- a number
abbrev pub number_text : ℕ → List (List ℕ)
number_text n = single (decimal n)

-- a number behind a letter
abbrev pub lettered : ℕ → ℕ → List (List ℕ)
lettered letter n = single (letter ∷ decimal n)

-- reading a number below the limit
abbrev pub number_at : Bool → ℕ → Reader ℕ
number_at exact limit = one (number exact limit)

-- reading a number below the limit behind a letter
abbrev pub lettered_at : Bool → ℕ → ℕ → Reader ℕ
lettered_at exact letter limit = one (marked letter (number exact limit))

-- ---- small tables

-- the word of a direction
abbrev pub axis_text : Axis → List ℕ
axis_text PlusX = codes "+X"
axis_text MinusX = codes "-X"
axis_text PlusY = codes "+Y"
axis_text MinusY = codes "-Y"
axis_text PlusZ = codes "+Z"
axis_text MinusZ = codes "-Z"

-- the word of a direction of a measurement; NOM stands for the nominal feature's
abbrev pub direction_text : Option Axis → List ℕ
direction_text None = codes "NOM"
direction_text (Some d) = axis_text d

-- the word of a setting of the probe
abbrev pub setting_text : Setting → List ℕ
setting_text Approach = codes "APPRCH"
setting_text Retract = codes "RETRCT"
setting_text Search = codes "SEARCH"
setting_text Depth = codes "DEPTH"

-- the word that says whether the nominal or the actual feature is meant
abbrev pub source_text : Source → List ℕ
source_text Nominal = codes "NOMINAL"
source_text Actual = codes "ACTUAL"

-- the word of the axis of a turn
abbrev pub turn_text : FrameAxis → List ℕ
turn_text frame_axis.X = codes "X"
turn_text frame_axis.Y = codes "Y"
turn_text frame_axis.Z = codes "Z"

-- the quarter turns of a number; where it is read for its shape alone, each number above 2 is three
abbrev pub quarters_of : ℕ → Quarters
quarters_of n = if n == 0 then quarter.Zero else if n == 1 then quarter.One else if n == 2 then quarter.Two else quarter.Three

-- reading quarter turns: 0 to 3
abbrev pub quarters_at : Bool → Reader Quarters
quarters_at exact = one (λ w. number exact 4 w >>= λ n. Some (quarters_of n))

-- the word of a feature of a number; where it is read for its shape alone, each number but 3 to 7 is the last one's
abbrev pub part_of : ℕ → FeatureWord
part_of n =
    if n == 3 then feature_word.X else if n == 4 then feature_word.Y else if n == 5 then feature_word.Z else if n == 6 then feature_word.I
    else if n == 7 then feature_word.J else feature_word.K

-- the number of a feature's word: 3 to 8
abbrev pub part_number : Bool → List ℕ → Option ℕ
part_number exact w = number exact 9 w >>= λ n. only_if (counted exact (nat_le 3 n)) n

-- reading a word of a feature by its number
abbrev pub part_at : Bool → Reader FeatureWord
part_at exact = one (λ w. part_number exact w >>= λ n. Some (part_of n))

-- ---- texts

-- a text between apostrophes; it may have blanks, and so it may be several words
abbrev pub text : List ℕ → List (List ℕ)
text bs = split 32 (39 ∷ bs ++ 39 ∷ [])

-- what stands between apostrophes: at most 1,024 bytes of a text
unfoldable pub quoted_in : Bool → List ℕ → Option (List ℕ)
quoted_in exact bytes =
    marked 39 (ending 39) bytes >>= λ bs. only_if (counted exact (nat_le (length bs) LONGEST_TEXT) && list_all is_text_byte bs) bs

-- reading a text: it takes all words that are left
unfoldable pub text_at : Bool → Reader (List ℕ)
text_at exact [] = None
text_at exact (w ∷ ws) = quoted_in exact (joined 32 (w ∷ ws)) >>= λ bs. Some (bs, [])

-- ---- places

-- three expressions
abbrev pub three : List Item × (List Item × List Item) → List (List ℕ)
three t = expression t.0 ++ (expression t.1.0 ++ expression t.1.1)

-- reading three expressions
unfoldable pub three_at : Bool → Reader (List Item × (List Item × List Item))
three_at exact = both (expression_at exact) (both (expression_at exact) (expression_at exact))

-- a number below a limit, behind a letter
abbrev pub behind : ℕ → ℕ → Spelling ℕ
behind letter limit = record { words = lettered letter; at = λ exact. lettered_at exact letter limit }

-- each place: a number alone or behind its letter (V, F, D, L, @), expressions, words of tables, the number of a feature's word, a text, branches
abbrev pub spelling : (p : Place) → Spelling (Said p)
spelling (at.variable k) = behind 86 (2 ^ 16)
spelling at.feature = behind 70 (2 ^ 16)
spelling at.frame = behind 68 (2 ^ 16)
spelling at.pair = behind 76 DEEPEST_BLOCKS
spelling at.target = behind 64 (2 ^ 32)
spelling (at.items k) = record { words = expression; at = expression_at }
spelling (at.three k) = record { words = three; at = three_at }
spelling at.assigned = record { words = λ o. lettered 86 o.0 ++ expression o.1; at = λ exact. both (lettered_at exact 86 (2 ^ 16)) (expression_at exact) }
spelling at.axis = named axis_text axes
spelling at.direction = named direction_text directions
spelling at.setting = named setting_text settings
spelling at.source = named source_text sources
spelling at.turn = named turn_text frame_axes
spelling at.quarters = record { words = λ q. number_text (quarters_number q); at = quarters_at }
spelling at.part = record { words = λ p. number_text (word_number p); at = part_at }
spelling at.text = record { words = text; at = text_at }
spelling at.branches = record { words = branches; at = branches_at }

-- the words of what stands in a place
abbrev pub place_words : (p : Place) → Said p → List (List ℕ)
place_words p x = (spelling p).words x

-- reading what stands in places
abbrev pub filled_at : Bool → (ps : List Place) → Reader (Filled ps)
filled_at exact [] = now tt
filled_at exact (p ∷ []) = (spelling p).at exact
filled_at exact (p ∷ q ∷ ps) = both ((spelling p).at exact) (filled_at exact (q ∷ ps))

-- ---- statements

-- the operands of a statement
abbrev pub operands : Op → List (List ℕ)
operands o = over_operands place_words o

-- reading the places of a form
abbrev pub form_at : Bool → Form → Reader Op
form_at exact (form ps make) = via (made ps make) (filled_at exact ps)

-- reading the operands behind a word
unfoldable pub operands_at : Bool → Word → Reader Op
operands_at exact w = form_at exact (form_of w)

-- reading the word of a statement, of any version
abbrev pub any_word_at : Reader Word
any_word_at = one (look_up word_rows)

-- reading the word of a statement that the version has
abbrev pub word_at : Version → Reader Word
word_at version = tested (has_word version) any_word_at

-- the words of a statement: its source line, its word, its operands
abbrev pub line : CodeStatement → List (List ℕ)
line s = number_text s.line ++ (single (word_text (word_of s.op)) ++ operands s.op)

-- reading the word of a statement and its operands
unfoldable pub op_at : Version → Bool → Reader Op
op_at version exact = after (word_at version) (operands_at exact)

-- reading a statement of a version
unfoldable pub line_at : Version → Bool → Reader CodeStatement
line_at version exact = via (λ o. record { line = o.0; op = o.1 }) (both (number_at exact (2 ^ 32)) (op_at version exact))

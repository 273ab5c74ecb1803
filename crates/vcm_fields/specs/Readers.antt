-- Reading from the front, with the first fault that is met.
use Rattle.std.specs.Prelude.{◌≡◌, ℕ, zero, suc, ℤ, Bool, List, [], ◌∷◌, length, take, drop, Option, Result, Ok, Err, nat_lt, nat_le, ◌==◌, ◌&&◌, if◌then◌else◌}
use Rattle.std.specs.Int.{Width, w16, w32, w64, byte_len, from_le_bytes, cast_signed}
use Rattle.vcm_num.specs.declared.number.Kind.{Kind}
use Rattle.vcm_spec.specs.declared.expression.Operand.TheVariants.{Integer, Thousandths, Truth, Variable}
use Rattle.vcm_spec.specs.declared.expression.UnaryOp.TheVariants.{Neg, Scale, Not}
use Rattle.vcm_spec.specs.declared.expression.BinaryOp.TheVariants.{Add, Sub, Mul, Div, And, Or, Compare}
use Rattle.vcm_spec.specs.declared.expression.Relation.TheVariants.{Equal, NotEqual, Less, LessEqual, Greater, GreaterEqual}
use Rattle.vcm_spec.specs.declared.expression.Item.{Item}
use Rattle.vcm_spec.specs.declared.expression.Item.TheVariants.{Push, Apply, Combine}
use Rattle.vcm_code.specs.declared.branch.Branch.{Branch}
use Rattle.vcm_code.specs.declared.version.Version.{Version}
use Rattle.vcm_code.specs.Words.{has_word, word_byte}
use Rattle.vcm_spec.specs.Setup.{Variable as Entry}
use Rattle.vcm_spec.specs.TextBytes.{is_text}
use Rattle.vcm_spec.specs.Results.{◌>>=◌}
use Rattle.vcm_items.specs.NameBytes.{is_name, is_variable_name}
use Rattle.vcm_code.specs.Code.{Op, CodeStatement}
use Rattle.vcm_fields.specs.declared.items.Tag.{Tag}
use Rattle.vcm_fields.specs.declared.items.Tag.TheVariants as tags
use Rattle.vcm_code.specs.declared.word.Word.{Word}
use Rattle.vcm_fields.specs.declared.fault.ImageFault.{ImageFault}
use Rattle.vcm_fields.specs.declared.fault.ImageFault.TheVariants.{NoMemory, Short, BadField}
use Rattle.vcm_code.specs.Shape.{Place, Said, Filled, axes, directions, settings, sources, frame_axes, quarter_turns, feature_words, kinds, all_words, made}
use Rattle.vcm_code.specs.Shape.{Form, form, form_of}
use Rattle.vcm_code.specs.Shape as at
use Rattle.vcm_fields.specs.Spelling.{tag_byte, axis_byte, direction_byte, setting_byte, source_byte, kind_byte}
use Rattle.vcm_num.specs.declared.axis.Axis.{Axis}
use Rattle.vcm_spec.specs.declared.words.Setting.{Setting}
use Rattle.vcm_spec.specs.declared.words.Source.{Source}
use Rattle.vcm_spec.specs.declared.words.FrameAxis.{FrameAxis}
use Rattle.vcm_spec.specs.declared.words.Quarters.{Quarters}
use Rattle.vcm_spec.specs.declared.words.FeatureWord.{FeatureWord}
use Rattle.vcm_spec.specs.Words.{axis_number, quarters_number, word_number}
use Rattle.vcm_num.specs.declared.limits.TheConstants.{DEEPEST_BLOCKS, LONGEST_NAME, LONGEST_TEXT, MOST_BRANCHES, MOST_ITEMS}

-- what a call returned, seen by view, is what reading gives
abbrev pub Gives : {X Y : Type 0} → (X → Y) → Result X ImageFault → Result Y ImageFault → Type 0
Gives view (Ok x) read = read ≡ Ok (view x)
Gives view (Err e) read = read ≡ Err e

-- what a call returned, seen by view, and what it left, is what reading gives
abbrev pub Takes : {X Y L F : Type 0} → (X → Y) → Result X F → L → Result (Y × L) F → Type 0
Takes view (Ok x) left read = read ≡ Ok (view x, left)
Takes view (Err e) left read = read ≡ Err e

-- what a call refused is what reading refuses; of want of memory nothing is said
abbrev pub Fails : {Y : Type 0} → ImageFault → Result Y ImageFault → Type 0
Fails NoMemory read = Unit {0}
Fails e read = read ≡ Err e

-- what a call returned, seen by view, is what reading gives, unless memory ran out
abbrev pub GivesOrNoMemory : {X Y : Type 0} → (X → Y) → Result X ImageFault → Result Y ImageFault → Type 0
GivesOrNoMemory view (Ok x) read = read ≡ Ok (view x)
GivesOrNoMemory view (Err e) read = Fails e read

-- a reader takes a value from the front of what is left, and leaves what stands after it, or it has a fault
abbrev pub From : Type 0 → Type 0 → Type 0 → Type 0
From L F A = L → Result (A × L) F

-- a reader of bytes
abbrev pub Reader : Type 0 → Type 0
Reader A = From (List ℕ) ImageFault A

-- one byte
abbrev pub byte_at : Reader ℕ
byte_at [] = Err Short
byte_at (b ∷ rest) = Ok (b, rest)

-- a value that takes nothing
abbrev pub now : {L F A : Type 0} → A → From L F A
now x left = Ok (x, left)

-- two values, one after the other
abbrev pub both : {L F A B : Type 0} → From L F A → From L F B → From L F (A × B)
both a b left = a left >>= λ x. b x.1 >>= λ y. Ok ((x.0, y.0), y.1)

-- what a function makes of the value that is read
abbrev pub via : {L F A B : Type 0} → (A → B) → From L F A → From L F B
via f a left = a left >>= λ x. Ok (f x.0, x.1)

-- a value that meets the test, else this fault
abbrev pub tested : {A : Type 0} → ImageFault → (A → Bool) → Reader A → Reader A
tested fault test a bytes = a bytes >>= λ x. if test x.0 then Ok x else Err fault

-- what is read next depends on the first value
abbrev pub after : {A B : Type 0} → Reader A → (A → Reader B) → Reader B
after a f bytes = a bytes >>= λ x. f x.0 x.1

-- so many values, one after the other
unfoldable pub times : {A : Type 0} → Reader A → ℕ → Reader (List A)
times a zero bytes = Ok ([], bytes)
times a (suc n) bytes = a bytes >>= λ x. times a n x.1 >>= λ xs. Ok (x.0 ∷ xs.0, xs.1)

-- the first of these values that has this byte; one that none of them has is out of range
abbrev pub among : {A : Type 0} → (A → ℕ) → List A → ℕ → Reader A
among byte_of [] k bytes = Err BadField
among byte_of (x ∷ xs) k bytes = if k == byte_of x then Ok (x, bytes) else among byte_of xs k bytes

-- a byte that stands for one of these values
abbrev pub one_of : {A : Type 0} → (A → ℕ) → List A → Reader A
one_of byte_of xs = after byte_at (among byte_of xs)

-- the bytes begin with a value that meets P
abbrev pub Begins : {A : Type 0} → Reader A → (A → Type 0) → List ℕ → Type 0
Begins {A} a P bytes = (x : A) × (rest : List ℕ) × (a bytes ≡ Ok (x, rest)) × P x

-- this is so of the value that the bytes begin with, and of the bytes behind it
abbrev pub OfFirst : {A : Type 0} → Reader A → List ℕ → (A → List ℕ → Type 0) → Type 0
OfFirst {A} a bytes P = (x : A) (rest : List ℕ) → a bytes ≡ Ok (x, rest) → P x rest

-- ---- places, however they are written

-- how each place is read
abbrev pub Format : Type 0 → Type 0 → Type 0
Format L F = (p : Place) → From L F (Said p)

-- what stands in places, one behind the other
abbrev pub filled_by : {L F : Type 0} → Format L F → (ps : List Place) → From L F (Filled ps)
filled_by at [] = now tt
filled_by at (p ∷ []) = at p
filled_by at (p ∷ q ∷ ps) = both (at p) (filled_by at (q ∷ ps))

-- the places of a form
abbrev pub form_by : {L F : Type 0} → Format L F → Form → From L F Op
form_by at (form ps make) = via (made ps make) (filled_by at ps)

-- the operands behind a word
unfoldable pub operands_by : {L F : Type 0} → Format L F → Word → From L F Op
operands_by at w = form_by at (form_of w)

-- ---- fields

-- a number of so many bytes, the lowest one first
abbrev pub number_at : Width → Reader ℕ
number_at w bytes =
    if nat_lt (length bytes) (byte_len w) then Err Short else Ok (from_le_bytes w (take (byte_len w) bytes), drop (byte_len w) bytes)

-- a number of eight bytes with its sign, as a two's complement
abbrev pub signed_at : Reader ℤ
signed_at = via (cast_signed w64) (number_at w64)

-- so many bytes, as they are
abbrev pub bytes_at : ℕ → Reader (List ℕ)
bytes_at n bytes = if nat_lt (length bytes) n then Err Short else Ok (take n bytes, drop n bytes)

-- a byte as a truth value
abbrev pub is_one : ℕ → Bool
is_one b = b == 1

-- a truth value: a byte that is 0 or 1
abbrev pub truth_at : Reader Bool
truth_at = via is_one (tested BadField (λ b. nat_lt b 2) byte_at)

-- ---- items

-- the tags of items
abbrev pub all_tags : List Tag
all_tags =
    tags.Integer ∷ tags.Thousandths ∷ tags.Truth ∷ tags.Variable ∷ tags.Unary Neg ∷ tags.Unary Scale ∷ tags.Unary Not
    ∷ tags.Binary Add ∷ tags.Binary Sub ∷ tags.Binary Mul ∷ tags.Binary Div ∷ tags.Binary And ∷ tags.Binary Or
    ∷ tags.Binary (Compare Equal) ∷ tags.Binary (Compare NotEqual) ∷ tags.Binary (Compare Less) ∷ tags.Binary (Compare LessEqual)
    ∷ tags.Binary (Compare Greater) ∷ tags.Binary (Compare GreaterEqual) ∷ []

-- the item behind its tag
abbrev pub behind_tag : Tag → Reader Item
behind_tag tags.Integer = via (λ n. Push (Integer n)) signed_at
behind_tag tags.Thousandths = via (λ n. Push (Thousandths n)) signed_at
behind_tag tags.Truth = via (λ b. Push (Truth b)) truth_at
behind_tag tags.Variable = via (λ v. Push (Variable v)) (number_at w16)
behind_tag (tags.Unary op) = now (Apply op)
behind_tag (tags.Binary op) = now (Combine op)

-- an item: its tag, and what it pushes
unfoldable pub item_at : Reader Item
item_at = after (one_of tag_byte all_tags) behind_tag

-- a number from the one to the other
abbrev pub within : ℕ → ℕ → ℕ → Bool
within low high n = nat_le low n && nat_le n high

-- an expression: the number of its items, 1 to 1,024, and the items
unfoldable pub expression_at : Reader (List Item)
expression_at = after (tested BadField (within 1 MOST_ITEMS) (number_at w16)) (times item_at)

-- the length of a name
abbrev pub length_at : Reader ℕ
length_at = tested BadField (within 1 LONGEST_NAME) byte_at

-- a name: its length, and so many bytes that are one
unfoldable pub name_at : Reader (List ℕ)
name_at = after length_at (λ n. tested BadField is_name (bytes_at n))

-- a variable's name
unfoldable pub variable_name_at : Reader (List ℕ)
variable_name_at = after length_at (λ n. tested BadField is_variable_name (bytes_at n))

-- a text: its length, and so many bytes that are one
unfoldable pub text_at : Reader (List ℕ)
text_at = after (tested BadField (λ n. nat_le n LONGEST_TEXT) (number_at w16)) (λ n. tested BadField is_text (bytes_at n))

-- ---- statements

-- the index of a variable, feature or frame
abbrev pub variable_at : Reader ℕ
variable_at = number_at w16

-- a byte below a limit
abbrev pub byte_below_at : ℕ → Reader ℕ
byte_below_at limit = tested BadField (λ n. nat_lt n limit) byte_at

-- the number of a loop's pair
abbrev pub pair_at : Reader ℕ
pair_at = byte_below_at DEEPEST_BLOCKS

-- the number of a statement
abbrev pub target_at : Reader ℕ
target_at = number_at w32

-- the direction of a feature
abbrev pub axis_at : Reader Axis
axis_at = one_of axis_byte axes

-- the direction of a measurement
abbrev pub direction_at : Reader (Option Axis)
direction_at = one_of direction_byte directions

-- a setting of the probe
abbrev pub setting_at : Reader Setting
setting_at = one_of setting_byte settings

-- whether the nominal or the actual feature is meant
abbrev pub source_at : Reader Source
source_at = one_of source_byte sources

-- the axis of a turn
abbrev pub turn_at : Reader FrameAxis
turn_at = one_of axis_number frame_axes

-- how many quarter turns
abbrev pub quarters_at : Reader Quarters
quarters_at = one_of quarters_number quarter_turns

-- a word of a feature
abbrev pub part_at : Reader FeatureWord
part_at = one_of word_number feature_words

-- the word of a statement, of any version
unfoldable pub any_word_at : Reader Word
any_word_at = one_of word_byte all_words

-- the word of a statement; one that the version doesn't have is out of range
abbrev pub word_at : Version → Reader Word
word_at v = tested BadField (has_word v) any_word_at

-- a branch of a SELECT: its value, and its target
unfoldable pub branch_at : Reader Branch
branch_at = via (λ b. record { value = b.0; target = b.1 }) (both signed_at target_at)

-- branches: how many they are, at most 20,000, and each of them
unfoldable pub branches_at : Reader (List Branch)
branches_at = after (tested BadField (λ n. nat_le n MOST_BRANCHES) (number_at w16)) (times branch_at)

-- three expressions
unfoldable pub three_at : Reader (List Item × (List Item × List Item))
three_at = both expression_at (both expression_at expression_at)

-- what stands in a place
abbrev pub place_at : (p : Place) → Reader (Said p)
place_at (at.variable k) = variable_at
place_at at.feature = variable_at
place_at at.frame = variable_at
place_at at.pair = pair_at
place_at at.target = target_at
place_at (at.items k) = expression_at
place_at (at.three k) = three_at
place_at at.assigned = both variable_at expression_at
place_at at.axis = axis_at
place_at at.direction = direction_at
place_at at.setting = setting_at
place_at at.source = source_at
place_at at.turn = turn_at
place_at at.quarters = quarters_at
place_at at.part = part_at
place_at at.text = text_at
place_at at.branches = branches_at

-- what stands in places, one behind the other
abbrev pub filled_at : (ps : List Place) → Reader (Filled ps)
filled_at ps = filled_by place_at ps

-- the operands behind a word
abbrev pub operands_at : Word → Reader Op
operands_at w = operands_by place_at w

-- a statement of a version: its word, its source line, and its operands
unfoldable pub line_at : Version → Reader CodeStatement
line_at v = after (word_at v) (λ k. via (λ o. record { line = o.0; op = o.1 }) (both (number_at w32) (operands_at k)))

-- ---- tables

-- the kind of a variable
unfoldable pub kind_at : Reader Kind
kind_at = one_of kind_byte kinds

-- a variable: its kind, its expansion, and its name
unfoldable pub entry_at : Reader Entry
entry_at = via (λ v. record { kind = v.0; expansion = v.1.0; name = v.1.1 }) (both kind_at (both (number_at w32) variable_name_at))

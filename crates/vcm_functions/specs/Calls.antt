-- Calls of functions by literals: each is written as its value.
use Rattle.std.specs.Prelude.{ℕ, ◌==◌, Bool, true, false, ◌&&◌, if◌then◌else◌, List, [], ◌∷◌, ◌++◌, Option, Some, None}
use Rattle.vcm_lines.specs.Bytes.{is_blank, upper}
use Rattle.vcm_functions.specs.declared.calls.Stand.{Stand}
use Rattle.vcm_functions.specs.declared.calls.Stand.TheVariants.{Outside, Word, Quoted, Argument}
use Rattle.vcm_functions.specs.declared.literals.Stage.{Stage}
use Rattle.vcm_functions.specs.declared.literals.Stage.TheVariants.{Done, Bad}
use Rattle.vcm_functions.specs.declared.literals.Literal.{Literal}
use Rattle.vcm_functions.specs.declared.values.Function.{Function}
use Rattle.vcm_functions.specs.declared.values.Value.{Value}
use Rattle.vcm_functions.specs.Words.{is_in_word}
use Rattle.vcm_functions.specs.Literals.{unread, literal_behind, value_in}
use Rattle.vcm_functions.specs.Values.{function_of, apply, value_text}

-- an expression as it is read: where the reading stands, the word that was read last, the bytes that are held back, the argument, and the bytes that are written
pub record Reading : Type 0 where
  pub stand : Stand
  pub word : List ℕ
  pub held : List ℕ
  pub literal : Literal
  pub out : List ℕ

-- nothing is read
abbrev pub nothing_read : Reading
nothing_read = record { stand = Outside; word = []; held = []; literal = unread; out = [] }

-- one more byte is held back
abbrev pub holding : Reading → ℕ → Reading
holding r b = record r { held = r.held ++ b ∷ [] }

-- these bytes are written, and none is held back
abbrev pub wrote : Reading → List ℕ → Reading
wrote r bs = record { stand = Outside; word = []; held = []; literal = unread; out = r.out ++ bs }

-- one more byte of a word
abbrev pub spelling : Reading → ℕ → Reading
spelling r b = record (holding r b) { stand = Word; word = r.word ++ upper b ∷ [] }

-- a byte between words
abbrev pub outside_behind : Reading → ℕ → Reading
outside_behind r b =
    if is_in_word b then spelling r b
    else if b == 39 then record r { stand = Quoted; out = r.out ++ b ∷ [] }
    else record r { out = r.out ++ b ∷ [] }

-- a byte behind what is no call
abbrev pub ended : Reading → ℕ → Reading
ended r b = outside_behind (wrote r r.held) b

-- whether a word names a function
abbrev pub is_named : Option Function → Bool
is_named None = false
is_named (Some f) = true

-- a byte behind a word, or in it: blanks stand for nothing
abbrev pub word_behind : Reading → ℕ → Reading
word_behind r b =
    if is_in_word b then spelling r b
    else if is_blank b then holding r b
    else if b == 40 && is_named (function_of r.word) then record (holding r b) { stand = Argument; literal = unread }
    else ended r b

-- a byte of a quoted text
abbrev pub quoted_behind : Reading → ℕ → Reading
quoted_behind r b = record r { stand = if b == 39 then Outside else Quoted; out = r.out ++ b ∷ [] }

-- the value of a function by an argument, if it has one
abbrev pub applied : Option Function → Option Value → Option Value
applied None v = None
applied (Some f) None = None
applied (Some f) (Some v) = apply f v

-- what a call is written as: its value, or these bytes
abbrev pub call_text : Option Value → List ℕ → List ℕ
call_text None bs = bs
call_text (Some v) bs = value_text v

-- a byte that ends a call
abbrev pub called : Reading → Literal → ℕ → Reading
called r l b = wrote r (call_text (applied (function_of r.word) (value_in l)) (r.held ++ b ∷ []))

-- a byte that ends what is no literal; a word that goes on from a number is none of the functions
abbrev pub broken_behind : Reading → ℕ → Reading
broken_behind r b =
    if r.literal.some && is_in_word b
    then record (wrote r r.held) { stand = Word; word = 48 ∷ []; held = b ∷ [] }
    else ended r b

-- a byte of an argument, by where its reading stands behind it
abbrev pub argument_by : Stage → Reading → Literal → ℕ → Reading
argument_by Done r l b = called r l b
argument_by Bad r l b = broken_behind r b
argument_by s r l b = record (holding r b) { literal = l }

-- a byte of an argument
abbrev pub argument_behind : Reading → ℕ → Reading
argument_behind r b =
    if is_blank b then holding r b
    else argument_by (literal_behind r.literal b).stage r (literal_behind r.literal b) b

-- one more byte
abbrev pub read_behind : Stand → Reading → ℕ → Reading
read_behind Outside r b = outside_behind r b
read_behind Word r b = word_behind r b
read_behind Quoted r b = quoted_behind r b
read_behind Argument r b = argument_behind r b

-- all bytes
abbrev pub read_from : Reading → List ℕ → Reading
read_from r [] = r
read_from r (b ∷ bs) = read_from (read_behind r.stand r b) bs

-- all that is written
abbrev pub all_out : Reading → List ℕ
all_out r = r.out ++ r.held

-- an expression with each call of a function by a literal as its value
unfoldable pub pass : List ℕ → List ℕ
pass bs = all_out (read_from nothing_read bs)

-- the same again, so that calls of calls have values, up to eight of them
abbrev pub two_passes : List ℕ → List ℕ
two_passes bs = pass (pass bs)

abbrev pub four_passes : List ℕ → List ℕ
four_passes bs = two_passes (two_passes bs)

abbrev pub eight_passes : List ℕ → List ℕ
eight_passes bs = four_passes (four_passes bs)

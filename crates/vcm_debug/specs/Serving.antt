-- What the debugger writes to the lines that it reads.
use Rattle.std.specs.Prelude.{◌≡◌, ℕ, zero, suc, ◌+◌, ◌-◌, ◌≤◌, ◌==◌, Bool, true, false, List, [], ◌∷◌, ◌++◌, length, take, slice_index_or}
use Rattle.std.specs.Prelude.{if◌then◌else◌, codes, Option, Result, Ok, Err, ◌⊎◌}
use Rattle.std.specs.Io.KnownBytes.{Appends}
use Rattle.vcm_num.specs.Written.{AppendsFront}
use Rattle.vcm_console.specs.declared.command.Command.{Command}
use Rattle.vcm_console.specs.declared.reply.Halted.{Halted}
use Rattle.vcm_console.specs.declared.reply.Reply.{Reply}
use Rattle.vcm_console.specs.declared.reply.Reply.TheVariants.{Bye}
use Rattle.vcm_console.specs.declared.reply.ServeFault.{ServeFault}
use Rattle.vcm_console.specs.declared.reply.ServeFault.TheVariants.{Read, Write, TooMuch}
use Rattle.vcm_console.specs.Parsing.{command_of}
use Rattle.vcm_console.specs.Reading.{TakesAtMost, IsLong, BeginsWithLine, size}
use Rattle.vcm_console.specs.Replies.{reply_text, halt_text}
use Rattle.vcm_debug.specs.Debugging.{Debugging, now}
use Rattle.vcm_debug.specs.Session.{standing, Carries}

-- the text of what a session answered, which stands so afterwards: want of memory is told with where it stands
abbrev pub answer_text : Debugging → Result Reply Halted → List ℕ
answer_text d (Ok r) = reply_text d.code (now d).world.lines r
answer_text d (Err h) = halt_text d.code.tables (standing d.code d.count (now d))

-- a session answers to a line, which spells a command or is refused
abbrev pub AnswersTo : Debugging → Result Command Reply → Debugging → Result Reply Halted → Type 0
AnswersTo old (Ok what) new told = Carries old what new told
AnswersTo old (Err refused) new told = (new ≡ old) × (told ≡ Ok refused)

-- whether an answer ends the session
abbrev pub is_bye_reply : Reply → Bool
is_bye_reply Bye = true
is_bye_reply _ = false

-- whether what was answered ends the session: want of memory doesn't
abbrev pub is_bye : Result Reply Halted → Bool
is_bye (Ok r) = is_bye_reply r
is_bye (Err h) = false

-- a line's bytes without the carriage return at its end
abbrev pub without_return : List ℕ → List ℕ
without_return bs = if slice_index_or bs (length bs - 1) 0 == 13 then take (length bs - 1) bs else bs

-- what a line says: a carriage return and a line feed end it as a line feed does
abbrev pub content : List ℕ → Bool → List ℕ
content raw true = without_return raw
content raw false = raw

-- What a session writes to a line: nothing where the line is empty, else the text of its answer; and whether that ends the session
pub record Exchange (old : Debugging) (line : List ℕ) (new : Debugging) (text : List ℕ) (last : Bool) : Type 0 where
  pub told : Result Reply Halted
  pub answers : AnswersTo old (command_of line) new told
  pub text_is : text ≡ answer_text new told
  pub last_is : last ≡ is_bye told

-- an empty line changes nothing and is not answered; any other line is answered
abbrev pub IsExchange : Debugging → List ℕ → Debugging → List ℕ → Bool → Type 0
IsExchange old [] new text last = (new ≡ old) × (text ≡ []) × (last ≡ false)
IsExchange old (b ∷ bs) new text last = Exchange old (b ∷ bs) new text last

-- how serving may end at a line: well where `bye` was its answer, with a failed write at any line
abbrev pub MayEnd : Bool → Result (Unit {0}) ServeFault → Type 0
MayEnd last (Ok done) = last ≡ true
MayEnd last (Err Write) = Unit {0}
MayEnd last (Err e) = ⊥

-- of at most n lines and `left` bytes of this input the session writes this text, serving ends with this result, and the session stands
-- there
pub data Serves : ℕ → ℕ → Debugging → List ℕ → List ℕ → Result (Unit {0}) ServeFault → Debugging → Type 0 where
  -- the end of the input is `quit`
  input_ends : {n left : ℕ} {d : Debugging} {r : Result (Unit {0}) ServeFault} → MayEnd true r → Serves n left d [] (codes "bye\n") r d
  -- a byte after the last line that may be, or after the last byte
  no_line : {left b : ℕ} {d : Debugging} {input : List ℕ} → Serves zero left d (b ∷ input) [] (Err TooMuch) d
  no_byte : {n left : ℕ} {d : Debugging} {input : List ℕ} → IsLong left input → Serves (suc n) left d input [] (Err TooMuch) d
  -- the reader failed
  no_read : {n left : ℕ} {d : Debugging} {input : List ℕ} → Serves n left d input [] (Err Read) d
  -- a line that is the last one
  last_line : {n left : ℕ} {d : Debugging} {input text : List ℕ} {r : Result (Unit {0}) ServeFault} (new : Debugging) (raw rest : List ℕ)
      (ended last : Bool)
      → BeginsWithLine input raw ended rest → size raw ended ≤ left → IsExchange d (content raw ended) new text last → MayEnd last r
      → Serves (suc n) left d input text r new
  -- a line, and the others
  one_line : {n left : ℕ} {d end : Debugging} {input : List ℕ} {r : Result (Unit {0}) ServeFault} (new : Debugging)
      (raw rest text more : List ℕ) (ended : Bool)
      → BeginsWithLine input raw ended rest → size raw ended ≤ left → IsExchange d (content raw ended) new text false
      → Serves n (left - size raw ended) new rest more r end → Serves (suc n) left d input (text ++ more) r end

-- a front of a text was written; all of it only where it could not be handed on
abbrev pub WritesSome : Option (List ℕ) → Option (List ℕ) → List ℕ → Type 0
WritesSome old new text = AppendsFront old new text ⊎ Appends old new text

-- all of the text was written, or, where the writer failed, a front of it
abbrev pub Writes : Result (Unit {0}) ServeFault → Option (List ℕ) → Option (List ℕ) → List ℕ → Type 0
Writes (Err Write) old new text = WritesSome old new text
Writes (Ok done) old new text = Appends old new text
Writes (Err e) old new text = Appends old new text

-- the last reply was written, or a front of it
abbrev pub IsBye : Result (Unit {0}) ServeFault → Option (List ℕ) → Option (List ℕ) → Type 0
IsBye r old new = MayEnd true r × Writes r old new (codes "bye\n")

-- A session served at most n lines of at most `left` bytes of an input, and ended at another session: what it wrote is what it serves, and
-- at most one byte is taken that it may not have
pub record Served (n left : ℕ) (old : Debugging) (input : List ℕ) (after before written : Option (List ℕ))
    (r : Result (Unit {0}) ServeFault) (new : Debugging) : Type 0 where
  pub text : List ℕ
  pub serves : Serves n left old input text r new
  pub writes : Writes r before written text
  pub little : TakesAtMost (left + 1) input after

-- What the debugger with several probes writes to the lines that it reads.
use Rattle.std.specs.Prelude.{◌≡◌, ℕ, zero, suc, ◌+◌, ◌-◌, ◌≤◌, Bool, true, false, List, [], ◌∷◌, ◌++◌, codes, Option, Result, Ok, Err}
use Rattle.vcm_console.specs.declared.command.Command.{Command}
use Rattle.vcm_console.specs.declared.reply.Halted.{Halted}
use Rattle.vcm_console.specs.declared.reply.Reply.{Reply}
use Rattle.vcm_console.specs.declared.reply.ServeFault.{ServeFault}
use Rattle.vcm_console.specs.declared.reply.ServeFault.TheVariants.{Read, TooMuch}
use Rattle.vcm_console.specs.Parsing.{command_of}
use Rattle.vcm_console.specs.Reading.{TakesAtMost, IsLong, BeginsWithLine, size}
use Rattle.vcm_debug.specs.Serving.{is_bye, content, MayEnd, Writes}
use Rattle.vcm_set_debug.specs.Session.{TurnedDebugging, Carries}
use Rattle.vcm_set_debug.specs.Telling.{answer_text}

-- a session answers to a line, which spells a command or is refused
abbrev pub AnswersTo : TurnedDebugging → Result Command Reply → TurnedDebugging → Result Reply Halted → Type 0
AnswersTo old (Ok what) new told = Carries old what new told
AnswersTo old (Err refused) new told = (new ≡ old) × (told ≡ Ok refused)

-- What a session writes to a line: nothing where the line is empty, else the text of its answer; and whether that ends the session
pub record Exchange (old : TurnedDebugging) (line : List ℕ) (new : TurnedDebugging) (text : List ℕ) (last : Bool) : Type 0 where
  pub told : Result Reply Halted
  pub answers : AnswersTo old (command_of line) new told
  pub text_is : text ≡ answer_text new told
  pub last_is : last ≡ is_bye told

-- an empty line changes nothing and is not answered; any other line is answered
abbrev pub IsExchange : TurnedDebugging → List ℕ → TurnedDebugging → List ℕ → Bool → Type 0
IsExchange old [] new text last = (new ≡ old) × (text ≡ []) × (last ≡ false)
IsExchange old (b ∷ bs) new text last = Exchange old (b ∷ bs) new text last

-- of at most n lines and `left` bytes of this input the session writes this text, serving ends with this result, and the session stands
-- there
pub data Serves : ℕ → ℕ → TurnedDebugging → List ℕ → List ℕ → Result (Unit {0}) ServeFault → TurnedDebugging → Type 0 where
  -- the end of the input is `quit`
  input_ends : {n left : ℕ} {d : TurnedDebugging} {r : Result (Unit {0}) ServeFault} → MayEnd true r → Serves n left d [] (codes "bye\n") r d
  -- a byte after the last line that may be, or after the last byte
  no_line : {left b : ℕ} {d : TurnedDebugging} {input : List ℕ} → Serves zero left d (b ∷ input) [] (Err TooMuch) d
  no_byte : {n left : ℕ} {d : TurnedDebugging} {input : List ℕ} → IsLong left input → Serves (suc n) left d input [] (Err TooMuch) d
  -- the reader failed
  no_read : {n left : ℕ} {d : TurnedDebugging} {input : List ℕ} → Serves n left d input [] (Err Read) d
  -- a line that is the last one
  last_line : {n left : ℕ} {d : TurnedDebugging} {input text : List ℕ} {r : Result (Unit {0}) ServeFault} (new : TurnedDebugging) (raw rest : List ℕ)
      (ended last : Bool)
      → BeginsWithLine input raw ended rest → size raw ended ≤ left → IsExchange d (content raw ended) new text last → MayEnd last r
      → Serves (suc n) left d input text r new
  -- a line, and the others
  one_line : {n left : ℕ} {d end : TurnedDebugging} {input : List ℕ} {r : Result (Unit {0}) ServeFault} (new : TurnedDebugging)
      (raw rest text more : List ℕ) (ended : Bool)
      → BeginsWithLine input raw ended rest → size raw ended ≤ left → IsExchange d (content raw ended) new text false
      → Serves n (left - size raw ended) new rest more r end → Serves (suc n) left d input (text ++ more) r end

-- A session served at most n lines of at most `left` bytes of an input, and ended at another session: what it wrote is what it serves, and
-- at most one byte is taken that it may not have
pub record Served (n left : ℕ) (old : TurnedDebugging) (input : List ℕ) (after before written : Option (List ℕ))
    (r : Result (Unit {0}) ServeFault) (new : TurnedDebugging) : Type 0 where
  pub text : List ℕ
  pub serves : Serves n left old input text r new
  pub writes : Writes r before written text
  pub little : TakesAtMost (left + 1) input after

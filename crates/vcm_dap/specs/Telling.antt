-- What is told, message behind message: output lines among others.
use Rattle.std.specs.Prelude.{◌≡◌, ◌⊎◌, ℕ, ◌<◌, ◌≤◌, Bool, true, false, List, [], ◌∷◌, ◌++◌, length, drop, flat_map, codes, Option, Some, None, Result, OnOk}
use Rattle.std.specs.List.{AllByRecursion}
use Rattle.std.specs.Io.KnownBytes.{Appends}
use Rattle.json.specs.Token.{Token}
use Rattle.json.specs.Print.{print}
use Rattle.vcm_wire.specs.Frames.{frame, Sent}
use Rattle.vcm_report.specs.Output.{output_lines}
use Rattle.vcm_spec.specs.declared.stop.StopPlace.{StopPlace}
use Rattle.vcm_report.specs.Printed.{stopped_line, no_stop_line, position_line, steps_line}
use Rattle.vcm_debug.specs.Debugging.{Debugging, now}
use Rattle.vcm_dap.specs.declared.asking.Ask.{Ask}
use Rattle.vcm_dap.specs.declared.asking.Ask.TheVariants as a
use Rattle.vcm_dap.specs.declared.asking.Motion.{Motion}
use Rattle.vcm_dap.specs.declared.asking.Motion.TheVariants.{Continue, StepOut}
use Rattle.vcm_dap.specs.Talking.{Talking, next_seq, done_front, done, ended, all_continue, event_front, output_front}

-- the frames of messages, one behind the other
abbrev pub frames : List (List Token) → List ℕ
frames messages = flat_map (λ m. frame (print m)) messages

-- the number of the last of these messages, where this one is the last before them
abbrev pub seq_behind : ℕ → List (List Token) → ℕ
seq_behind seq [] = seq
seq_behind seq (m ∷ ms) = seq_behind (next_seq seq) ms

-- just these messages were written behind what was there, and each has taken a number
pub record Says (old new : Talking) (messages : List (List Token)) : Type 0 where
  pub counted : new.seq ≡ seq_behind old.seq messages
  pub written : Appends old.written new.written (frames messages)

-- some messages were written behind what was there, each of them whole
abbrev pub SaysSome : Talking → Talking → Type 0
SaysSome old new = (messages : List (List Token)) × Says old new messages

-- the event that tells output lines, each with its line feed
abbrev pub lines_event : ℕ → List (List ℕ) → List Token
lines_event seq lines = ended (output_front seq (codes "stdout") (output_lines lines))

-- the events that tell lines in pieces: one for each piece, with the next numbers
abbrev pub lines_events : ℕ → List (List (List ℕ)) → List (List Token)
lines_events seq [] = []
lines_events seq (p ∷ ps) = lines_event (next_seq seq) p ∷ lines_events (next_seq seq) ps

-- as many lines as one event may tell: some, and at most a thousand
abbrev pub IsPiece : List (List ℕ) → Type 0
IsPiece p = (0 < length p) × (length p ≤ 1000)

-- lines are cut into pieces: put together in order they are these lines, each once and none left out
pub record AreCut (pieces : List (List (List ℕ))) (lines : List (List ℕ)) : Type 0 where
  pub whole : flat_map (λ p. p) pieces ≡ lines
  pub sized : AllByRecursion IsPiece pieces

-- output lines were told by events that tell them in pieces; or a front of these events was written, where the call failed
pub record ToldLines {A E : Type 0} (old new : Talking) (lines : List (List ℕ)) (r : Result A E) : Type 0 where
  pub pieces : List (List (List ℕ))
  pub cut : AreCut pieces lines
  pub counted : OnOk r (new.seq ≡ seq_behind old.seq (lines_events old.seq pieces))
  pub sent : Sent old.written new.written (frames (lines_events old.seq pieces)) r

-- whether a motion runs on, and whether it is a step out
abbrev pub is_continue : Motion → Bool
is_continue Continue = true
is_continue _ = false

abbrev pub is_step_out : Motion → Bool
is_step_out StepOut = true
is_step_out _ = false

-- the answer of a motion. Of one that runs on it tells that all threads do
abbrev pub motion_answer : ℕ → ℕ → List ℕ → Bool → List Token
motion_answer seq request command true = ended (done_front seq request command ++ all_continue)
motion_answer seq request command false = done seq request command

-- what a step out tells: why nothing is done
abbrev pub no_calls : ℕ → Bool → List (List Token)
no_calls seq true = ended (output_front seq (codes "stderr") (codes "there are no calls to step out of: macros stand expanded\n")) ∷ []
no_calls seq false = []

-- what comes first of a motion, before anything that was printed
abbrev pub first_messages : ℕ → ℕ → List ℕ → Motion → List (List Token)
first_messages seq request command m =
    motion_answer (next_seq seq) request command (is_continue m) ∷ no_calls (next_seq (next_seq seq)) (is_step_out m)

-- an event of this name, whatever it tells
abbrev pub IsEvent : List ℕ → List Token → Type 0
IsEvent name m = (seq : ℕ) × (ts : List Token) × (m ≡ ended (event_front seq name ++ ts))

-- an event that tells this text, whatever else it tells
abbrev pub IsOutput : List ℕ → List ℕ → List Token → Type 0
IsOutput category text m = (seq : ℕ) × (ts : List Token) × (m ≡ ended (output_front seq category text ++ ts))

-- one such event was written behind what was there
abbrev pub TellsText : Talking → Talking → List ℕ → List ℕ → Type 0
TellsText old new category text = (m : List Token) × IsOutput category text m × Says old new (m ∷ [])

-- a text is the line of the stop that a session stands at, or one of those
abbrev pub IsResult : Debugging → List ℕ → Type 0
IsResult d text =
    ((place : StopPlace) × ((now d).world.stop ≡ Some place) × (text ≡ stopped_line d.code.tables place))
    ⊎ ((text ≡ no_stop_line d.count) ⊎ ((text ≡ position_line (now d).world.position) ⊎ (text ≡ steps_line d.count)))

-- what may stand behind the output lines of a motion: that the machine stands still, or that the session ends; the line of the stop, or of the result of a
-- run
abbrev pub IsBehind : Debugging → List Token → Type 0
IsBehind d m =
    IsEvent (codes "stopped") m
    ⊎ (IsEvent (codes "exited") m ⊎ (IsEvent (codes "terminated") m ⊎ ((category : List ℕ) × (text : List ℕ) × IsResult d text × IsOutput category text m)))

-- such messages were written behind what was there, whole ones
pub record SaysBehind (d : Debugging) (old new : Talking) : Type 0 where
  pub messages : List (List Token)
  pub says : Says old new messages
  pub are : AllByRecursion (IsBehind d) messages

-- an event that tells what of a producer's text wasn't tried, where that is told at its end
abbrev pub IsUntried : Option (List ℕ) → List Token → Type 0
IsUntried None m = ⊥
IsUntried (Some text) m = IsOutput (codes "stderr") text m

-- what may stand behind the output lines of a motion, of a producer's text too
abbrev pub IsThen : Option (List ℕ) → Debugging → List Token → Type 0
IsThen told d m = IsBehind d m ⊎ IsUntried told m

-- such messages were written behind what was there, whole ones
pub record SaysThen (told : Option (List ℕ)) (d : Debugging) (old new : Talking) : Type 0 where
  pub messages : List (List Token)
  pub says : Says old new messages
  pub are : AllByRecursion (IsThen told d) messages

-- what a motion that was done has written: these first messages, the events that tell these output lines, and behind them what tells where the session
-- stands
pub record ToldMotion (old new : Talking) (first : List (List Token)) (lines : List (List ℕ)) (told : Option (List ℕ)) (d : Debugging) : Type 0 where
  pub pieces : List (List (List ℕ))
  pub cut : AreCut pieces lines
  pub behind : List (List Token)
  pub are : AllByRecursion (IsThen told d) behind
  pub says : Says old new ((first ++ lines_events (seq_behind old.seq first) pieces) ++ behind)

-- what a request that was served has written, where so many lines were told before, this is told at the end, and the session stands so: a motion the lines
-- behind those, and each whole messages
abbrev pub Tells : Talking → Talking → ℕ → List ℕ → Ask → ℕ → Option (List ℕ) → Debugging → Type 0
Tells old new request command (a.Move m) told untried d = ToldMotion old new (first_messages old.seq request command m) (drop told (now d).world.lines) untried d
Tells old new request command _ told untried d = SaysSome old new

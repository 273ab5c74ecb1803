-- What the adapter says, message by message.
use Rattle.std.specs.Prelude.{◌≡◌, ℕ, ◌+◌, ◌-◌, ◌^◌, min, Bool, true, false, List, [], ◌∷◌, ◌++◌, codes, decimal, Option, Some, None, option_and_then, not}
use Rattle.std.specs.Prelude.{Result}
use Rattle.std.specs.Str.{bytes_eq}
use Rattle.std.specs.Str.Lossy.{utf8_lossy}
use Rattle.json.specs.Json.{Json}
use Rattle.json.specs.Find.{as_str, as_bool}
use Rattle.json.specs.Token.{Token, begin_object, end_object, begin_array, end_array, key, string, number, boolean}
use Rattle.json.specs.Print.{print}
use Rattle.vcm_wire.specs.Frames.{frame, Sent}
use Rattle.vcm_wire.specs.Messages.{front}
use Rattle.vcm_wire.specs.Requests.{argument}

-- the talk: the number of the last message, whether the client counts lines from 0, and what was written
pub record Talking : Type 0 where
  pub seq : ℕ
  pub is_from_0 : Bool
  pub written : Option (List ℕ)

-- the number of the next message: one more, up to the last number that there is
abbrev pub next_seq : ℕ → ℕ
next_seq n = min (n + 1) (2 ^ 64 - 1)

-- the talk with one message more begun
abbrev pub counted : Talking → Talking
counted t = record t { seq = next_seq t.seq }

-- a member with a value
abbrev pub member : List ℕ → Token → List Token
member name value = key name ∷ value ∷ []

-- the front of an answer
abbrev pub answer_front : ℕ → ℕ → Bool → List ℕ → List Token
answer_front seq request is_done command =
    ((front seq (codes "response") ++ member (codes "request_seq") (number (decimal request))) ++ member (codes "success") (boolean is_done))
    ++ member (codes "command") (string command)

-- the front of an answer that it is done, with its body begun
abbrev pub done_front : ℕ → ℕ → List ℕ → List Token
done_front seq request command = answer_front seq request true command ++ member (codes "body") begin_object

-- a message whose body and which itself end
abbrev pub ended : List Token → List Token
ended ts = (ts ++ end_object ∷ []) ++ end_object ∷ []

-- the answer that it is done, with nothing to tell
abbrev pub done : ℕ → ℕ → List ℕ → List Token
done seq request command = ended (done_front seq request command)

-- the same with why it is refused, and with its body begun
abbrev pub with_error : List Token → List ℕ → List Token
with_error ts why =
    (((((ts ++ member (codes "message") (string why)) ++ member (codes "body") begin_object) ++ member (codes "error") begin_object)
    ++ member (codes "id") (number (decimal 1))) ++ member (codes "format") (string why)) ++ end_object ∷ []

-- the answer that refuses, and why
abbrev pub refusal : ℕ → ℕ → List ℕ → List ℕ → List Token
refusal seq request command why = ended (with_error (answer_front seq request false command) why)

-- whether a client counts lines from 0: where it says that they don't start at 1
abbrev pub is_off : Option Bool → Bool
is_off None = false
is_off (Some is) = not is

abbrev pub counts_from_0 : Json → Bool
counts_from_0 message = is_off (option_and_then as_bool (argument message (codes "linesStartAt1")))

-- whether a client speaks of files by their paths: where it says nothing else
abbrev pub is_path : Option (List ℕ) → Bool
is_path None = true
is_path (Some format) = bytes_eq format (codes "path")

abbrev pub has_paths : Json → Bool
has_paths message = is_path (option_and_then as_str (argument message (codes "pathFormat")))

-- the same with what the adapter can do
abbrev pub with_capabilities : List Token → List Token
with_capabilities ts =
    ((((ts ++ member (codes "supportsConfigurationDoneRequest") (boolean true)) ++ member (codes "supportsEvaluateForHovers") (boolean true))
    ++ member (codes "supportsStepBack") (boolean true)) ++ member (codes "supportsExceptionInfoRequest") (boolean true))
    ++ member (codes "supportsDataBreakpoints") (boolean true)

-- what is answered to `initialize`: what the adapter can do, or that it takes no files by anything else than their paths
abbrev pub initialized : Bool → ℕ → ℕ → List ℕ → List Token
initialized true seq request command = ended (with_capabilities (done_front seq request command))
initialized false seq request command = refusal seq request command (codes "vcm takes paths, no URIs")

-- the same with the one thread
abbrev pub with_thread : List Token → List Token
with_thread ts =
    (((((ts ++ member (codes "threads") begin_array) ++ begin_object ∷ []) ++ member (codes "id") (number (decimal 1)))
    ++ member (codes "name") (string (codes "probe"))) ++ end_object ∷ []) ++ end_array ∷ []

-- the answer that names it
abbrev pub threads : ℕ → ℕ → List ℕ → List Token
threads seq request command = ended (with_thread (done_front seq request command))

-- that all threads run on
abbrev pub all_continue : List Token
all_continue = member (codes "allThreadsContinued") (boolean true)

-- the front of an event, with its body begun
abbrev pub event_front : ℕ → List ℕ → List Token
event_front seq name = (front seq (codes "event") ++ member (codes "event") (string name)) ++ member (codes "body") begin_object

-- the event that tells a text, with its body begun
abbrev pub output_front : ℕ → List ℕ → List ℕ → List Token
output_front seq category text =
    (event_front seq (codes "output") ++ member (codes "category") (string category)) ++ member (codes "output") (string (utf8_lossy text))

-- a message of these bytes was handed on: its frame is written, or a front of it where the call failed
pub record IsWritten {A E : Type 0} (old new : Talking) (bytes : List ℕ) (r : Result A E) : Type 0 where
  pub counted : new.seq ≡ old.seq
  pub same : new.is_from_0 ≡ old.is_from_0
  pub sent : Sent old.written new.written (frame bytes) r

-- a message of these tokens was handed on
abbrev pub IsSent : {A E : Type 0} → Talking → Talking → List Token → Result A E → Type 0
IsSent old new tokens r = IsWritten old new (print tokens) r

-- one message was told, with the next number
abbrev pub Told : {A E : Type 0} → Talking → Talking → List Token → Result A E → Type 0
Told old new tokens r = IsSent (counted old) new tokens r

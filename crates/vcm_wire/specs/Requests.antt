-- What a message asks.
use Rattle.std.specs.Prelude.{◌≡◌, ◌≢◌, ℕ, List, codes, Option, Some, None, option_and_then, cond, Ok}
use Rattle.std.specs.Str.Parse.{ParsesUnsigned}
use Rattle.json.specs.Json.{Json}
use Rattle.json.specs.Find.{get, as_str, as_number, is_null}
use Rattle.vcm_wire.specs.declared.request.Unread.{Unread}
use Rattle.vcm_wire.specs.declared.request.Unread.TheVariants.{NoRequest, Broken}

-- a value that is there, where it isn't null
abbrev pub unless_null : Option Json → Option Json
unless_null None = None
unless_null (Some j) = cond (is_null j) None (Some j)

-- an argument of a request; null stands for none
abbrev pub argument : Json → List ℕ → Option Json
argument message name = unless_null (option_and_then (get name) (get (codes "arguments") message))

-- the message says that it is something else than a request
pub record IsNoRequest (message : Json) : Type 0 where
  pub kind : Json
  pub kind_is : get (codes "type") message ≡ Some kind
  pub other : as_str kind ≢ Some (codes "request")

-- a message asks for this command, under this number
pub record Asks (message : Json) (seq : ℕ) (command : List ℕ) : Type 0 where
  pub is_request : ¬ IsNoRequest message
  pub number : List ℕ
  pub number_is : option_and_then as_number (get (codes "seq") message) ≡ Some number
  pub seq_is : ParsesUnsigned {E = Unit {0}} 64 10 number (Ok seq)
  pub command_is : option_and_then as_str (get (codes "command") message) ≡ Some command

-- why a message is no request
abbrev pub IsUnread : Json → Unread → Type 0
IsUnread message NoRequest = IsNoRequest message
IsUnread message Broken = (¬ IsNoRequest message) × ((seq : ℕ) (command : List ℕ) → ¬ Asks message seq command)

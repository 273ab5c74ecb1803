-- Statements about frames and requests. Each is the contract of a law in src/laws.rt.
use Rattle.std.specs.Prelude.{◌≡◌, ◌⊎◌, ℕ, ◌≤◌, List, ◌++◌, length, Option, Some}
use Rattle.json.specs.Json.{Json}
use Rattle.vcm_wire.specs.declared.frames.FrameFault.{FrameFault}
use Rattle.vcm_wire.specs.declared.frames.FrameFault.TheVariants.{Read, NoMemory}
use Rattle.vcm_wire.specs.Frames.{frame, IsFramed, BeginsWithFrame, IsUnframed}
use Rattle.vcm_wire.specs.Requests.{Asks}

-- a fault is none of the input
abbrev pub IsOutside : FrameFault → Type 0
IsOutside fault = (fault ≡ Read) ⊎ (fault ≡ NoMemory)

-- what may come of the frame of a message with this rest behind it: this message, and the rest is left; or a fault that is none of the input
pub record IsRead (message rest : List ℕ) : Type 0 where
  pub framed : IsFramed (Some (frame message ++ rest)) (Some rest) message
  pub alone : (new : Option (List ℕ)) (told : Option (List ℕ)) → BeginsWithFrame (Some (frame message ++ rest)) new told → (told ≡ Some message)
      × (new ≡ Some rest)
  pub no_fault : (new : Option (List ℕ)) (fault : FrameFault) → IsUnframed (Some (frame message ++ rest)) new fault → IsOutside fault

-- the frame of a message is read as this message
abbrev pub FramesAreRead : Type 0
FramesAreRead = (message rest : List ℕ) → length message ≤ 1048576 → IsRead message rest

-- an input begins with one message, or has none and has ended
abbrev pub FramesAreOne : Type 0
FramesAreOne =
    (input : List ℕ) (new behind : Option (List ℕ)) (told other : Option (List ℕ)) → BeginsWithFrame (Some input) new told
    → BeginsWithFrame (Some input) behind other → (told ≡ other) × (new ≡ behind)

-- what is refused as no head, or as too long, is no frame, nor has it ended
abbrev pub RefusedAreNone : Type 0
RefusedAreNone =
    (input : List ℕ) (new behind : Option (List ℕ)) (told : Option (List ℕ)) (fault : FrameFault) → BeginsWithFrame (Some input) new told
    → IsUnframed (Some input) behind fault → IsOutside fault

-- a message asks for one command, under one number
abbrev pub RequestsAreOne : Type 0
RequestsAreOne =
    (message : Json) (seq other : ℕ) (command asked : List ℕ) → Asks message seq command → Asks message other asked → (seq ≡ other) × (command ≡ asked)

-- Frames: a head that tells a length, and so many bytes.
use Rattle.std.specs.Prelude.{◌≡◌, ◌≢◌, ℕ, ◌<◌, ◌≤◌, List, ◌++◌, length, take, codes, decimal, Option, Some, None, Result, Ok, Err}
use Rattle.std.specs.Io.KnownBytes.{Consumes, Appends, Keeps, IsAtEnd}
use Rattle.vcm_num.specs.Literals.{AllDigits, digits_value}
use Rattle.vcm_wire.specs.declared.frames.FrameFault.{FrameFault}
use Rattle.vcm_wire.specs.declared.frames.FrameFault.TheVariants.{Read, NoHead, TooLong, NoMemory}

-- digits that may tell a length: one to seven
abbrev pub IsLength : List ℕ → Type 0
IsLength digits = AllDigits digits × (0 < length digits) × (length digits ≤ 7)

-- a head whose length these digits tell
abbrev pub head : List ℕ → List ℕ
head digits = codes "Content-Length: " ++ (digits ++ codes "\r\n\r\n")

-- the frame of a message
abbrev pub frame : List ℕ → List ℕ
frame message = head (decimal (length message)) ++ message

-- a head that tells this length was taken from the front of an input
pub record HasHead (old new : Option (List ℕ)) (n : ℕ) : Type 0 where
  pub digits : List ℕ
  pub is_length : IsLength digits
  pub value : digits_value digits ≡ n
  pub taken : Consumes old new (head digits)

-- a head and this message were taken from the front of an input, and the head tells how long it is
pub record IsFramed (old new : Option (List ℕ)) (message : List ℕ) : Type 0 where
  pub digits : List ℕ
  pub is_length : IsLength digits
  pub value : digits_value digits ≡ length message
  pub short : length message ≤ 1048576
  pub taken : Consumes old new (head digits ++ message)

-- a message was read, or the input had ended and nothing was taken
abbrev pub BeginsWithFrame : Option (List ℕ) → Option (List ℕ) → Option (List ℕ) → Type 0
BeginsWithFrame old new None = IsAtEnd old × Keeps old new
BeginsWithFrame old new (Some message) = IsFramed old new message

-- no head begins an input, whatever comes behind it
abbrev pub HasNoHead : Option (List ℕ) → Type 0
HasNoHead None = Unit {0}
HasNoHead (Some input) = (digits rest more : List ℕ) → IsLength digits → head digits ++ rest ≢ input ++ more

-- why no message was read; of a reader that failed, or ended within a message, nothing is said
abbrev pub IsUnframed : Option (List ℕ) → Option (List ℕ) → FrameFault → Type 0
IsUnframed old new Read = Unit {0}
IsUnframed old new NoHead = HasNoHead old
IsUnframed old new TooLong = (n : ℕ) × (1048576 < n) × HasHead old new n
IsUnframed old new NoMemory = (n : ℕ) × (n ≤ 1048576) × HasHead old new n

-- all of these bytes were written and handed on, or a front of them was written: all of them where they only couldn't be handed on
abbrev pub Sent : {A E : Type 0} → Option (List ℕ) → Option (List ℕ) → List ℕ → Result A E → Type 0
Sent old new bytes (Ok done) = Appends old new bytes
Sent old new bytes (Err e) = (k : ℕ) × (k ≤ length bytes) × Appends old new (take k bytes)

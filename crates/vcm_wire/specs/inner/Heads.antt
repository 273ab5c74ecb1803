-- Heads, byte by byte.
use Rattle.std.specs.Prelude.{◌≡◌, ◌≢◌, ℕ, List, [], ◌∷◌, ◌++◌, codes, Option, Some, None, Result, Ok, Err}
use Rattle.std.specs.Io.KnownBytes.{Consumes, Keeps, IsAtEnd}
use Rattle.vcm_num.specs.Literals.{digits_value}
use Rattle.vcm_wire.specs.declared.frames.FrameFault.{FrameFault}
use Rattle.vcm_wire.specs.declared.frames.FrameFault.TheVariants.{Read, NoHead, TooLong, NoMemory}
use Rattle.vcm_wire.specs.Frames.{IsLength, head, HasHead}

-- the next byte of an input, or its end
abbrev pub IsNextByte : Option (List ℕ) → Option (List ℕ) → Result (Option ℕ) FrameFault → Type 0
IsNextByte old new (Ok None) = IsAtEnd old × Keeps old new
IsNextByte old new (Ok (Some b)) = Consumes old new (b ∷ [])
IsNextByte old new (Err f) = f ≡ Read

-- a byte that has to be there
abbrev pub IsByte : Option (List ℕ) → Option (List ℕ) → Result ℕ FrameFault → Type 0
IsByte old new (Ok b) = Consumes old new (b ∷ [])
IsByte old new (Err f) = f ≡ Read

-- none of these texts begins an input, whatever comes behind it
abbrev pub BeginsWithNone : (List ℕ → Type 0) → Option (List ℕ) → Type 0
BeginsWithNone Is None = Unit {0}
BeginsWithNone Is (Some input) = (text rest more : List ℕ) → Is text → text ++ rest ≢ input ++ more

-- why none of these texts was read
abbrev pub IsNoneOf : (List ℕ → Type 0) → Option (List ℕ) → FrameFault → Type 0
IsNoneOf Is old Read = Unit {0}
IsNoneOf Is old NoHead = BeginsWithNone Is old
IsNoneOf Is old TooLong = ⊥
IsNoneOf Is old NoMemory = ⊥

-- a text that has to be there
abbrev pub IsText : {A : Type 0} → List ℕ → Option (List ℕ) → Option (List ℕ) → Result A FrameFault → Type 0
IsText text old new (Ok done) = Consumes old new text
IsText text old new (Err f) = IsNoneOf (λ t. t ≡ text) old f

-- digits that tell a length, and what ends them
abbrev pub IsEnded : List ℕ → List ℕ → Type 0
IsEnded end text = (digits : List ℕ) × IsLength digits × (text ≡ digits ++ end)

-- digits that tell this length were taken, and what ends them
pub record HasDigits (end : List ℕ) (old new : Option (List ℕ)) (n : ℕ) : Type 0 where
  pub digits : List ℕ
  pub is_length : IsLength digits
  pub value : digits_value digits ≡ n
  pub taken : Consumes old new (digits ++ end)

-- digits were read, and what ends them
abbrev pub IsEndRead : List ℕ → Option (List ℕ) → Option (List ℕ) → Result ℕ FrameFault → Type 0
IsEndRead end old new (Ok n) = HasDigits end old new n
IsEndRead end old new (Err f) = IsNoneOf (IsEnded end) old f

-- a carriage return ends them
abbrev pub IsDigits : Option (List ℕ) → Option (List ℕ) → Result ℕ FrameFault → Type 0
IsDigits = IsEndRead (codes "\r")

-- the end of a head ends them
abbrev pub IsLengthRead : Option (List ℕ) → Option (List ℕ) → Result ℕ FrameFault → Type 0
IsLengthRead = IsEndRead (codes "\r\n\r\n")

-- why no message follows a head; where memory is wanted, nothing was taken of it
abbrev pub IsMissing : Option (List ℕ) → Option (List ℕ) → FrameFault → Type 0
IsMissing old new Read = Unit {0}
IsMissing old new NoHead = ⊥
IsMissing old new TooLong = ⊥
IsMissing old new NoMemory = new ≡ old

-- heads, as texts
abbrev pub IsHead : List ℕ → Type 0
IsHead text = (digits : List ℕ) × IsLength digits × (text ≡ head digits)

-- a head was read, or the input had ended and nothing was taken
abbrev pub IsHeadRead : Option (List ℕ) → Option (List ℕ) → Result (Option ℕ) FrameFault → Type 0
IsHeadRead old new (Ok None) = IsAtEnd old × Keeps old new
IsHeadRead old new (Ok (Some n)) = HasHead old new n
IsHeadRead old new (Err f) = IsNoneOf IsHead old f

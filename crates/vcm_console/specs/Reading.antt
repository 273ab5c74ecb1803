-- Lines of an input.
use Rattle.std.specs.Prelude.{◌≡◌, ◌≢◌, ℕ, ◌+◌, ◌<◌, ◌≤◌, Bool, true, false, List, [], ◌∷◌, ◌++◌, length, take, drop, Option, Some, None}
use Rattle.std.specs.Prelude.{Result, Ok, Err, IfSome}
use Rattle.std.specs.Io.KnownBytes.{Keeps}
use Rattle.vcm_console.specs.declared.line.RawLine.{RawLine}
use Rattle.vcm_console.specs.declared.reply.ServeFault.{ServeFault}
use Rattle.vcm_console.specs.declared.reply.ServeFault.TheVariants.{Read, Write, TooMuch}

-- at most so many bytes of an input were taken, and it stands behind them
abbrev pub TakesAtMost : ℕ → List ℕ → Option (List ℕ) → Type 0
TakesAtMost most input after = (k : ℕ) × (k ≤ most) × (after ≡ Some (drop k input))

-- the next byte of a known input, or its end; a reader that failed has given nothing
abbrev pub IsNextOf : List ℕ → Option (List ℕ) → Option ℕ → Type 0
IsNextOf input after None = (input ≡ []) × (after ≡ Some input)
IsNextOf input after (Some b) = (rest : List ℕ) × (input ≡ b ∷ rest) × (after ≡ Some rest)

-- the same of an input that may be unknown; where its device fails, it stands where it stood
abbrev pub IsNext : Option (List ℕ) → Option (List ℕ) → Result (Option ℕ) ServeFault → Type 0
IsNext known after (Ok next) = IfSome known (λ input. IsNextOf input after next)
IsNext known after (Err e) = (e ≡ Read) × Keeps known after

-- no line feed
abbrev pub AllPlain : List ℕ → Type 0
AllPlain [] = Unit {0}
AllPlain (b ∷ bs) = (b ≢ 10) × AllPlain bs

-- the first line of an input has these bytes, a line feed ends it or the input's end does, and this follows it
abbrev pub BeginsWithLine : List ℕ → List ℕ → Bool → List ℕ → Type 0
BeginsWithLine input raw true rest = (input ≡ raw ++ 10 ∷ rest) × AllPlain raw
BeginsWithLine input raw false rest = (input ≡ raw) × (rest ≡ []) × AllPlain raw × (0 < length raw)

-- how many bytes it takes
abbrev pub size : List ℕ → Bool → ℕ
size raw true = length raw + 1
size raw false = length raw

-- after `left` bytes the first line has not ended, and there is another byte
pub record IsLong (left : ℕ) (input : List ℕ) : Type 0 where
  pub seen : List ℕ
  pub rest : List ℕ
  pub cut : input ≡ seen ++ rest
  pub plain : AllPlain seen
  pub long : length seen ≡ left
  pub more : 0 < length rest

-- what of a line is kept: 256 bytes, a carriage return, and one more, which shows that it is too long
abbrev pub kept_of : List ℕ → List ℕ
kept_of raw = take 258 raw

-- a line was read whole, and its first bytes are kept
pub record HasLine (left : ℕ) (input : List ℕ) (after : Option (List ℕ)) (kept : List ℕ) (ended : Bool) (used : ℕ) : Type 0 where
  pub raw : List ℕ
  pub rest : List ℕ
  pub begins : BeginsWithLine input raw ended rest
  pub kept_is : kept ≡ kept_of raw
  pub used_is : used ≡ size raw ended
  pub fits : used ≤ left
  pub after_is : after ≡ Some rest

-- what reading a line found, and what of the input is left: where the line is longer, one byte behind the limit is taken too; where the
-- reader failed, no byte behind it
abbrev pub ReadsLine : ℕ → List ℕ → Option (List ℕ) → Result (Option RawLine) ServeFault → Type 0
ReadsLine left input after (Ok None) = (input ≡ []) × (after ≡ Some [])
ReadsLine left input after (Ok (Some l)) = HasLine left input after l.kept l.ended l.used
ReadsLine left input after (Err TooMuch) = IsLong left input × (after ≡ Some (drop (left + 1) input))
ReadsLine left input after (Err Read) = TakesAtMost left input after
ReadsLine left input after (Err Write) = ⊥

-- a line takes no more bytes than it may
abbrev pub IsWithin : ℕ → Result (Option RawLine) ServeFault → Type 0
IsWithin left (Ok (Some l)) = l.used ≤ left
IsWithin left (Ok None) = Unit {0}
IsWithin left (Err e) = Unit {0}

-- the faults of reading lines: the device failed, or there is too much
abbrev pub IsReadOrMuch : ServeFault → Type 0
IsReadOrMuch Read = Unit {0}
IsReadOrMuch TooMuch = Unit {0}
IsReadOrMuch Write = ⊥

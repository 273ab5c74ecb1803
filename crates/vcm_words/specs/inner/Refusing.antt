-- A reader of words as one of those by which any statement is read: what it can't read is refused.
use Rattle.std.specs.Prelude.{ℕ, List, Bool, Option, Some, None, Result, Ok, Err}
use Rattle.vcm_fields.specs.Readers.{Format}
use Rattle.vcm_words.specs.Operands.{spelling}

-- what is left: whether it is read exactly, and the words
abbrev pub LeftWords : Type 0
LeftWords = Bool × List (List ℕ)

-- what was read, or a refusal
abbrev pub or_refused : {A : Type 0} → Bool → Option (A × List (List ℕ)) → Result (A × LeftWords) (Unit {0})
or_refused exact (Some x) = Ok (x.0, (exact, x.1))
or_refused exact None = Err tt

-- how each place is read
abbrev pub place_in : Format LeftWords (Unit {0})
place_in p left = or_refused left.0 ((spelling p).at left.0 left.1)

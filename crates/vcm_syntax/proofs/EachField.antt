-- Fields are read one at a time.
use Rattle.std.proofs.Common.{◌≡◌, ℕ, List, ◌++◌, drop, Result, Ok}
use Rattle.vcm_lines.specs.declared.fault.FaultCode.{FaultCode}
use Rattle.vcm_lines.specs.Lexemes.{Lexeme}
use Rattle.vcm_spec.specs.Results.{◌>>=◌}
use Rattle.vcm_syntax.specs.Readers.{each_of}

-- what was read, and what is read behind it
abbrev pub with_all : {A : Type 0} → List A → Result (List A) FaultCode → Result (List A) FaultCode
with_all xs r = r >>= λ ys. Ok (xs ++ ys)

-- these were read of the first i fields: with those of the fields behind them they are those of all
pub record AreRead {A : Type 0} (read : List Lexeme → Result A FaultCode) (fs : List (List Lexeme)) (i : ℕ) (xs : List A) : Type 0 where
  pub whole : each_of read fs ≡ with_all xs (each_of read (drop i fs))

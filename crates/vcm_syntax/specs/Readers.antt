-- How a statement is read: from the left, up to the leftmost fault, whose code is the answer. A field is a list of words.
use Rattle.std.specs.Prelude.{ℕ, List, [], ◌∷◌, slice_get, Result, Ok, Err}
use Rattle.vcm_lines.specs.declared.fault.FaultCode.{FaultCode}
use Rattle.vcm_lines.specs.declared.fault.FaultCode.TheVariants.{BadSyntax}
use Rattle.vcm_lines.specs.Lexemes.{Lexeme}
use Rattle.vcm_lines.specs.Fault.{or_fault}
use Rattle.vcm_spec.specs.Results.{◌>>=◌}

-- nothing is left
abbrev pub end_of : {X : Type 0} → List X → Result (Unit {0}) FaultCode
end_of [] = Ok tt
end_of (x ∷ xs) = Err BadSyntax

-- this, with no word behind it
abbrev pub alone : {A : Type 0} → A → List Lexeme → Result A FaultCode
alone a [] = Ok a
alone a (w ∷ ws) = Err BadSyntax

-- the field at a place
abbrev pub field : List (List Lexeme) → ℕ → Result (List Lexeme) FaultCode
field fs k = or_fault BadSyntax (slice_get fs k)

-- one field at least
abbrev pub some_field : List (List Lexeme) → Result (Unit {0}) FaultCode
some_field [] = Err BadSyntax
some_field (f ∷ fs) = Ok tt

-- each field, one after another
abbrev pub each_of : {A : Type 0} → (List Lexeme → Result A FaultCode) → List (List Lexeme) → Result (List A) FaultCode
each_of read [] = Ok []
each_of read (f ∷ fs) = do
  x ← read f
  xs ← each_of read fs
  Ok (x ∷ xs)

-- The values of variables and the rounds of loops that are kept of a step.
use Rattle.std.specs.Prelude.{ℕ, ◌+◌, ℤ, List, [], ◌∷◌, replicate, slice_set, pos}

-- values of variables, and rounds of loops
pub record Past : Type 0 where
  pub variables : List ℤ
  pub rounds : List ℕ

-- values put in the place of others, from this place on
abbrev pub put_over : List ℤ → (place : ℕ) → List ℤ → List ℤ
put_over values i [] = values
put_over values i (o ∷ os) = put_over (slice_set values i o) (i + 1) os

-- of so many variables each 0, and of no loop a round
abbrev pub nothing_kept : ℕ → Past
nothing_kept n = record { variables = replicate n (pos 0); rounds = replicate 32 0 }

-- these in the place of what is kept
abbrev pub kept_over : Past → List ℤ → List ℕ → Past
kept_over p values rounds = record { variables = put_over p.variables 0 values; rounds = rounds }

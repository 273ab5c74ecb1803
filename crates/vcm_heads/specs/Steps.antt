-- Readers that may find nothing, one after another.
use Rattle.std.specs.Prelude.{Option, Some, None}

-- one step after another, as long as each finds something
infixl 10 ◌>>=◌
abbrev pub ◌>>=◌ : {A B : Type 0} → Option A → (A → Option B) → Option B
(Some x) >>= f = f x
None >>= f = None

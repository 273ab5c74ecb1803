-- What a test answers.
use Rattle.std.specs.Prelude.{◌≡◌, Bool, true}

-- the test answers true where this holds, and only there
pub record Tells (b : Bool) (P : Type 0) : Type 0 where
  pub so : b ≡ true → P
  pub only : P → b ≡ true

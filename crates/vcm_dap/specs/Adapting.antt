-- What the adapter is.
use Rattle.std.specs.Prelude.{ℕ, Bool, List, Option}
use Rattle.vcm_debug.specs.Debugging.{Debugging}

-- what a launch asks for: the path of the text that is shown, the most steps of a motion, whether it stands before the first statement, whether it runs to
-- the end without any stop on the way, and what of a producer's text is told at its end; none of a program as it is written
pub record Wanted : Type 0 where
  pub source : Option (List ℕ)
  pub steps : ℕ
  pub stop_on_entry : Bool
  pub no_debug : Bool
  pub told : Option (List ℕ)

-- the adapter: the session, what the launch asked for, and how many output lines were told
pub record Adapting : Type 0 where
  pub session : Debugging
  pub wanted : Wanted
  pub told : ℕ

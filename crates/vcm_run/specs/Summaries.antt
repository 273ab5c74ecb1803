-- What a run shows.
use Rattle.std.specs.Prelude.{ℕ, List}
use Rattle.vcm_state.specs.Held.{Held}
use Rattle.vcm_program.specs.declared.accepted.Noticed.{Noticed}
use Rattle.vcm_machine.specs.declared.ran.Ran.{Ran}

-- the state of the machine with the tables of its names, the next statement's number, how many steps were done and how the run ended, and
-- the lines of the program that have no effect
pub record Shown : Type 0 where
  pub held : Held
  pub next : ℕ
  pub ran : Ran
  pub notices : List Noticed

-- The steps of a check.
use Rattle.std.specs.Prelude.{◌≡◌, ℕ, List}
use Rattle.vcm_spec.specs.Program.{sizes}
use Rattle.vcm_program.specs.declared.accepted.Noticed.{Noticed}
use Rattle.vcm_tree.specs.Acceptance.{IsAccepted}
use Rattle.vcm_program.specs.Program.{Parsed}

-- the text is accepted as a program of so many statements, with these notices
pub record IsCounted (text : List ℕ) (count : ℕ) (notices : List Noticed) : Type 0 where
  pub parsed : Parsed
  pub accepted : IsAccepted text parsed
  pub count_is : count ≡ sizes parsed.program
  pub notices_are : notices ≡ parsed.notices

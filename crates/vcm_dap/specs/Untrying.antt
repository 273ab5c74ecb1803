-- What isn't tried where a session stands.
use Rattle.std.specs.Prelude.{ℕ, ◌==◌, nat_lt, List, [], ◌∷◌, Option, Some, None, if◌then◌else◌}
use Rattle.vcm_dap.specs.declared.settings.Untried.{Untried}

-- this, if it is of this line
abbrev pub if_on : ℕ → Untried → Option Untried
if_on line u = if u.line == line then Some u else None

-- the first that a run comes by behind so many steps, if it is of this line: what a halt there tells
abbrev pub untried_at : (steps line : ℕ) → List Untried → Option Untried
untried_at steps line [] = None
untried_at steps line (u ∷ us) = if nat_lt steps u.step then if_on line u else untried_at steps line us

-- The next step of a machine.
use Rattle.std.specs.Prelude.{ℕ, suc, List, slice_get}
use Rattle.vcm_machine.specs.Running.{Running, later}
use Rattle.vcm_steps.specs.Passages.{Passage, passage_at}

-- the step that a machine takes next, behind so many
abbrev pub next_passage : ℕ → Running → List Passage
next_passage done m = passage_at (suc done) m.state (later 1 m).state (slice_get m.code.statements m.state.next)

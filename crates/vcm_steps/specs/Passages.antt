-- The steps of a run of a loaded code, one by one.
use Rattle.std.specs.Prelude.{◌≡◌, ℕ, zero, suc, ◌≤◌, List, [], ◌∷◌, ◌++◌, slice_get, Option, Some, None}
use Rattle.vcm_spec.specs.Workpiece.{Workpiece}
use Rattle.vcm_spec.specs.Setup.{Setup, Tables, setup_of}
use Rattle.vcm_spec.specs.World.{World}
use Rattle.vcm_spec.specs.Rests.{Rests}
use Rattle.vcm_machine.specs.Running.{Running, later}
use Rattle.vcm_spec.specs.Stepping.{unless_stopped}
use Rattle.vcm_code.specs.declared.code.Code.{Code}
use Rattle.vcm_code.specs.Code.{CodeStatement}
use Rattle.vcm_code.specs.CodeTable.{CodeState, code_step, code_steps, code_effective, start}

-- one step of a run: how many were taken with it, the number of its statement, the statement, the state before it and behind it, and the
-- number of the statement that comes next
pub record Passage : Type 0 where
  pub count : ℕ
  pub number : ℕ
  pub statement : CodeStatement
  pub before : World
  pub after : World
  pub next : ℕ

abbrev pub passage : (count number : ℕ) → CodeStatement → (before after : World) → (next : ℕ) → Passage
passage count number s before after next =
    record { count = count; number = number; statement = s; before = before; after = after; next = next }

-- what a code is carried out on
abbrev pub setup_with : Workpiece → Code → Setup
setup_with part c = setup_of part c.tables

-- the state of a code after so many steps from its start
abbrev pub state_after : Workpiece → Code → ℕ → CodeState
state_after part c n = code_steps (setup_with part c) c.statements n (start (setup_with part c))

-- how many of so many steps are taken before it has stopped
abbrev pub steps_taken : Workpiece → Code → ℕ → ℕ
steps_taken part c n = code_effective (setup_with part c) c.statements n (start (setup_with part c))

-- the step from a state to another at this statement, with which so many were taken
abbrev pub passage_at : ℕ → CodeState → CodeState → Option CodeStatement → List Passage
passage_at count m after None = []
passage_at count m after (Some s) = passage count m.next s m.world after.world after.next ∷ []

-- the step from a state, with which so many were taken; at a stop there is none
abbrev pub passage_from : Workpiece → Code → ℕ → CodeState → List Passage
passage_from part c count m =
    unless_stopped m.world.stop [] (passage_at count m (code_step (setup_with part c) c.statements m) (slice_get c.statements m.next))

-- the steps of a run for at most n steps
abbrev pub passages : Workpiece → Code → ℕ → List Passage
passages part c zero = []
passages part c (suc k) = passages part c k ++ passage_from part c (suc k) (state_after part c k)

-- the statement comes next in this state and by these tables, for a machine that has not stopped beside a workpiece and over a code that fit
pub record IsNext (fits : Workpiece → Code → Type 0) (tables : Tables) (w : World) (s : CodeStatement) : Type 0 where
  pub machine : Running
  pub fit : fits machine.part machine.code
  pub stands : slice_get machine.code.statements machine.state.next ≡ Some s
  pub running : machine.state.world.stop ≡ None
  pub rests : Rests machine.part machine.state.world
  pub world_is : machine.state.world ≡ w
  pub tables_are : machine.code.tables ≡ tables

-- the statement came next in a state of which this is known, and this is the state behind it
pub record WasNext (fits : Workpiece → Code → Type 0) (known : World → Type 0) (s : CodeStatement) (after : World) : Type 0 where
  pub before : World
  pub tables : Tables
  pub is_next : IsNext fits tables before s
  pub known_before : known before
  pub after_is : (later 1 is_next.machine).state.world ≡ after

-- a follower broke off a run for at most n steps at the last of these steps, behind those before it
pub record IsBroken (n : ℕ) (part : Workpiece) (c : Code) (broke : List Passage → Passage → Type 0) : Type 0 where
  pub done : ℕ
  pub last : Passage
  pub count_is : last.count ≡ suc done
  pub taken : suc done ≤ steps_taken part c n
  pub passages_are : passages part c (suc done) ≡ passages part c done ++ last ∷ []
  pub broken : broke (passages part c done) last

-- A run that goes on behind its contacts.
use Rattle.std.specs.Prelude.{ℕ, zero, suc, ◌+◌, List, [], ◌∷◌, ◌++◌, slice_get, slice_set, Option, Some, None}
use Rattle.vcm_spec.specs.declared.stop.Stop.{Stop}
use Rattle.vcm_spec.specs.declared.stop.Stop.TheVariants.{Collision}
use Rattle.vcm_spec.specs.Setup.{setup_of}
use Rattle.vcm_spec.specs.Stepping.{unless_stopped}
use Rattle.vcm_spec.specs.Workpiece.{Workpiece}
use Rattle.vcm_spec.specs.World.{stopped}
use Rattle.vcm_code.specs.Code.{CodeStatement}
use Rattle.vcm_code.specs.declared.code.Code.{Code}
use Rattle.vcm_code.specs.CodeTable.{CodeState, code_state, code_step, start}
use Rattle.vcm_way.specs.Ways.{reason}
use Rattle.vcm_contacts.specs.declared.contact.Contact.{Contact}
use Rattle.vcm_contacts.specs.declared.contact.Lead.{Lead}
use Rattle.vcm_contacts.specs.declared.contact.Lead.TheVariants.{On, Again, Back, Stops}
use Rattle.vcm_contacts.specs.Leading.{lead}

-- a state, and the contacts behind which the run went on, in their order
pub record Passed : Type 0 where
  pub state : CodeState
  pub contacts : List Contact

-- the state with a lead carried out, at a statement with this source line
abbrev pub led : CodeState → (line : ℕ) → Lead → CodeState
led m line (On p) = code_state (record (m.world) { position = p }) (m.next + 1) m.pairs
led m line (Again p) = code_state (record (m.world) { position = p }) m.next m.pairs
led m line (Back p i f) = code_state (record (m.world) { position = p; actual = slice_set m.world.actual i (Some f) }) (m.next + 1) m.pairs
led m line (Stops why) = code_state (stopped m.world why m.next line) m.next m.pairs

-- behind a statement that would come to a state by a step: where that has met a block, the run goes on behind the contact
abbrev pub passed_by : Workpiece → CodeState → CodeStatement → CodeState → Option Stop → Passed
passed_by part m s after (Some (Collision phase hit)) = record {
  state = led m s.line (lead part m.world s.op phase hit);
  contacts = record { phase = phase; hit = hit; number = m.next; line = s.line } ∷ [];
}
passed_by part m s after stop = record { state = after; contacts = [] }

-- behind the statement that is next, if there is one
abbrev pub passed_at : Workpiece → CodeState → CodeState → Option CodeStatement → Passed
passed_at part m after (Some s) = passed_by part m s after (reason after.world.stop)
passed_at part m after None = record { state = after; contacts = [] }

-- one step that goes on behind a contact; a stopped state doesn't change
abbrev pub pass : Workpiece → Code → CodeState → Passed
pass part c m = unless_stopped m.world.stop (record { state = m; contacts = [] })
    (passed_at part m (code_step (setup_of part c.tables) c.statements m) (slice_get c.statements m.next))

-- one step more
abbrev pub pass_on : Workpiece → Code → Passed → Passed
pass_on part c p = let q = pass part c p.state in record { state = q.state; contacts = p.contacts ++ q.contacts }

-- n steps from the start
abbrev pub passed_after : Workpiece → Code → ℕ → Passed
passed_after part c zero = record { state = start (setup_of part c.tables); contacts = [] }
passed_after part c (suc n) = pass_on part c (passed_after part c n)

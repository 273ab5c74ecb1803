-- The debugger with several probes: what each command answers, and where the session stands afterwards.
use Rattle.std.specs.Prelude.{◌≡◌, ℕ, ◌+◌, ◌-◌, ◌<◌, ◌==◌, nat_lt, nat_le, min, pos, Bool, true, false, List, length, replicate}
use Rattle.std.specs.Prelude.{slice_set, slice_index_or, position, Option, Some, None, Result, Ok, Err, if◌then◌else◌}
use Rattle.std.specs.List.{position_from}
use Rattle.std.specs.Str.{bytes_eq}
use Rattle.vcm_spec.specs.Workpiece.{Workpiece}
use Rattle.vcm_spec.specs.World.{World}
use Rattle.vcm_console.specs.declared.command.VariableRef.{VariableRef}
use Rattle.vcm_console.specs.declared.command.Command.{Command}
use Rattle.vcm_console.specs.declared.command.Command.TheVariants as c
use Rattle.vcm_console.specs.declared.reply.Reason.{Reason}
use Rattle.vcm_console.specs.declared.reply.Reason.TheVariants.{Stopped}
use Rattle.vcm_console.specs.declared.reply.CommandRefusal.{CommandRefusal}
use Rattle.vcm_console.specs.declared.reply.CommandRefusal.TheVariants.{NoSuchName, NoSuchStatement, BeforeStart}
use Rattle.vcm_console.specs.declared.reply.Halted.{Halted}
use Rattle.vcm_console.specs.declared.reply.Reply.{Reply}
use Rattle.vcm_console.specs.declared.reply.Reply.TheVariants.{Set, Cleared, Found, Stands, Ran, Watched, Unwatched, Value, Features}
use Rattle.vcm_console.specs.declared.reply.Reply.TheVariants.{Listed, Lines, Bye, Refused}
use Rattle.vcm_code.specs.declared.code.Code.{Code}
use Rattle.vcm_machine.specs.Running.{WantsMemory}
use Rattle.vcm_debug.specs.Halting.{RunEnd, ends_after}
use Rattle.vcm_debug.specs.Session.{standing, recorded, is_wanted}
use Rattle.vcm_probe_set.specs.Probes.{Probe}
use Rattle.vcm_set_debug.specs.Reached.{Reached, at_start, behind, now, machine_at, goes}
use Rattle.vcm_set_debug.specs.Halting.{reason_behind, reason_from, steps_taken, first_end, last_end}

-- A session: how far the run has come, for each statement whether it has a breakpoint, and for each variable whether it is watched
pub record TurnedDebugging : Type 0 where
  pub run : Reached
  pub breakpoints : List Bool
  pub watches : List Bool

-- a session at the start
abbrev pub opened : Workpiece → List Probe → (variable : ℕ) → Code → TurnedDebugging
opened part ps v code = record {
  run = at_start part ps v code;
  breakpoints = replicate (length code.statements) false;
  watches = replicate (length code.tables.variables) false;
}

-- a reply, and the session as it is afterwards
pub record Answer : Type 0 where
  pub reply : Reply
  pub session : TurnedDebugging

-- this reply, with the session as it is
abbrev pub answers : TurnedDebugging → Reply → Answer
answers d r = record { reply = r; session = d }

-- the session after so many steps
abbrev pub at_count : TurnedDebugging → ℕ → TurnedDebugging
at_count d n = record d { run = behind d.run n }

-- the world that it shows
abbrev pub world : TurnedDebugging → World
world d = (now d.run).state.world

-- where it stands, as its reply
abbrev pub stands : TurnedDebugging → Answer
stands d = answers d (Stands (standing d.run.code d.run.count (now d.run).state))

-- how a run of at most k steps ends from where the session stands: where no step is taken it ends at once
abbrev pub run_of : TurnedDebugging → ℕ → RunEnd
run_of d k = if goes d.run d.run.count then first_end (reason_from d.breakpoints d.watches d.run) k 0 else ends_after 0 Stopped

-- a run ended after n steps in all, for this reason
abbrev pub ran_to : TurnedDebugging → ℕ → Reason → Answer
ran_to d n why = answers (at_count d n) (Ran why (standing d.run.code n (now (behind d.run n)).state))

-- running back came to this end of a run, or to the start
abbrev pub back_to : TurnedDebugging → Option RunEnd → Answer
back_to d None = stands (at_count d 0)
back_to d (Some e) = ran_to d e.steps e.why

-- the session after a run that ended so, and its reply
abbrev pub ran : TurnedDebugging → RunEnd → Answer
ran d h = ran_to d (d.run.count + h.steps) h.why

-- what a command answers that needs the statement of this number
abbrev pub at_statement : TurnedDebugging → ℕ → Answer → Answer
at_statement d n a = if nat_lt n (length d.run.code.statements) then a else answers d (Refused NoSuchStatement)

-- what a command answers at the index that was found, or why it is refused
abbrev pub where_found : TurnedDebugging → Option ℕ → CommandRefusal → (ℕ → Answer) → Answer
where_found d None why go = answers d (Refused why)
where_found d (Some i) why go = go i

-- the lowest statement of a source line
abbrev pub statement_on : TurnedDebugging → ℕ → Option ℕ
statement_on d line = position_from (λ s. s.line == line) 0 d.run.code.statements

-- the lowest variable that is wanted
abbrev pub variable_of : TurnedDebugging → VariableRef → Option ℕ
variable_of d v = position (is_wanted v) d.run.code.tables.variables

-- the lowest feature of a name
abbrev pub feature_of : TurnedDebugging → List ℕ → Option ℕ
feature_of d name = position (λ x. bytes_eq x name) d.run.code.tables.features

-- what each command answers, and where the session stands afterwards
abbrev pub answer : TurnedDebugging → Command → Answer
answer d (c.Break n) = at_statement d n (answers (record d { breakpoints = slice_set d.breakpoints n true }) (Set n))
answer d (c.Clear n) = at_statement d n (answers (record d { breakpoints = slice_set d.breakpoints n false }) (Cleared n))
answer d (c.Line line) = where_found d (statement_on d line) NoSuchStatement (λ n. answers d (Found line n))
answer d (c.Step k) = stands (at_count d (d.run.count + steps_taken d.run k))
answer d (c.Run k) = ran d (run_of d k)
answer d (c.Watch v) =
    where_found d (variable_of d v) NoSuchName (λ i. answers (record d { watches = slice_set d.watches i true }) (Watched i))
answer d (c.Unwatch v) =
    where_found d (variable_of d v) NoSuchName (λ i. answers (record d { watches = slice_set d.watches i false }) (Unwatched i))
answer d c.Where = stands d
answer d (c.Show v) = where_found d (variable_of d v) NoSuchName (λ i. answers d (Value i (slice_index_or (world d).variables i (pos 0))))
answer d (c.Feat name) =
    where_found d (feature_of d name) NoSuchName (λ i. answers d (Features i (recorded (world d).nominal i) (recorded (world d).actual i)))
answer d (c.List None) = answers d (Listed (now d.run).state.next)
answer d (c.List (Some n)) = at_statement d n (answers d (Listed n))
answer d (c.Out k) = answers d (Lines (length (world d).lines) (min k (length (world d).lines)))
answer d (c.Back k) = if nat_le k d.run.count then stands (at_count d (d.run.count - k)) else answers d (Refused BeforeStart)
answer d c.Reverse = back_to d (last_end (reason_behind d.breakpoints d.watches d.run) (d.run.count - 1))
answer d c.Quit = answers d Bye

-- memory was refused after `done` of k steps: there the session stands, and its next statement makes an output line and would not stop
pub record HaltsAfter (d : TurnedDebugging) (k done : ℕ) (new : TurnedDebugging) : Type 0 where
  pub session : new ≡ at_count d (d.run.count + done)
  pub within : done < k
  pub wants : WantsMemory (machine_at d.run (d.run.count + done))

-- how a session stands where memory was refused in a command: only steps, runs and steps back want it, and after a refused step back it is
-- as it was
abbrev pub Halts : TurnedDebugging → Command → TurnedDebugging → ℕ → Type 0
Halts d (c.Step k) new done = HaltsAfter d k done new
Halts d (c.Run k) new done = HaltsAfter d k done new × ((i : ℕ) → i < done → reason_from d.breakpoints d.watches d.run i ≡ None)
Halts d (c.Back k) new done = (new ≡ d) × (done ≡ 0)
Halts d c.Reverse new done = (new ≡ d) × (done ≡ 0)
Halts d _ new done = ⊥

-- a session carried a command out, or was refused memory in it
abbrev pub Carries : TurnedDebugging → Command → TurnedDebugging → Result Reply Halted → Type 0
Carries old what new (Ok r) = record { reply = r; session = new } ≡ answer old what
Carries old what new (Err h) = Halts old what new h.done

-- The debugger: what each command answers, and where the session stands afterwards.
use Rattle.std.specs.Prelude.{◌≡◌, ℕ, ◌+◌, ◌-◌, ◌<◌, ◌==◌, nat_lt, nat_le, min, pos, Bool, true, false, ◌&&◌, List, length, slice_get}
use Rattle.std.specs.Prelude.{slice_set, slice_index_or, position, Option, Some, None, Result, Ok, Err, [], ◌∷◌, if◌then◌else◌}
use Rattle.std.specs.List.{position_from}
use Rattle.std.specs.Str.{bytes_eq}
use Rattle.vcm_spec.specs.declared.feature.Feature.{Feature}
use Rattle.vcm_spec.specs.declared.stop.StopPlace.{StopPlace}
use Rattle.vcm_spec.specs.Setup.{Variable}
use Rattle.vcm_console.specs.declared.command.VariableRef.{VariableRef}
use Rattle.vcm_console.specs.declared.command.Command.{Command}
use Rattle.vcm_console.specs.declared.command.Command.TheVariants as c
use Rattle.vcm_console.specs.declared.reply.Reason.{Reason}
use Rattle.vcm_console.specs.declared.reply.Reason.TheVariants.{Stopped}
use Rattle.vcm_console.specs.declared.reply.Standing.{Standing}
use Rattle.vcm_console.specs.declared.reply.CommandRefusal.{CommandRefusal}
use Rattle.vcm_console.specs.declared.reply.CommandRefusal.TheVariants.{NoSuchName, NoSuchStatement, BeforeStart}
use Rattle.vcm_console.specs.declared.reply.Reply.{Reply}
use Rattle.vcm_console.specs.declared.reply.Reply.TheVariants.{Set, Cleared, Found, Stands, Ran, Watched, Unwatched, Value, Features}
use Rattle.vcm_console.specs.declared.reply.Reply.TheVariants.{Listed, Lines, Bye, Refused}
use Rattle.vcm_console.specs.declared.reply.Halted.{Halted}
use Rattle.vcm_code.specs.declared.code.Code.{Code}
use Rattle.vcm_code.specs.CodeTable.{CodeState}
use Rattle.vcm_code.specs.Code.{CodeStatement}
use Rattle.vcm_machine.specs.Running.{WantsMemory, started}
use Rattle.vcm_debug.specs.Debugging.{Debugging, shown, now}
use Rattle.vcm_debug.specs.Halting.{RunEnd, ends_after, run_end, last_end, reason_after, effective}

-- the source line that a statement was read from
abbrev pub line_in : Option CodeStatement → ℕ
line_in None = 0
line_in (Some s) = s.line

-- the source line of a statement
abbrev pub line_of : Code → ℕ → ℕ
line_of code n = line_in (slice_get code.statements n)

-- where a code stands at a place, after so many steps
abbrev pub standing : Code → ℕ → CodeState → Standing
standing code n s = record { steps = n; next = s.next; line = line_of code s.next; stop = s.world.stop }

-- a feature that a list holds at an index, if the list goes so far and the feature is recorded
abbrev pub in_list : Option (Option Feature) → Option Feature
in_list None = None
in_list (Some f) = f

-- the feature that is recorded at an index
abbrev pub recorded : List (Option Feature) → ℕ → Option Feature
recorded features i = in_list (slice_get features i)

-- a reply, and the session as it is afterwards
pub record Answer : Type 0 where
  pub reply : Reply
  pub session : Debugging

-- this reply, with the session as it is
abbrev pub answers : Debugging → Reply → Answer
answers d r = record { reply = r; session = d }

-- the session after so many steps
abbrev pub at_count : Debugging → ℕ → Debugging
at_count d n = record d { count = n }

-- where the session stands, as its reply
abbrev pub stands : Debugging → Answer
stands d = answers d (Stands (standing d.code d.count (now d)))

-- a run of at most k steps from a state; at a stop it does nothing
abbrev pub run_or_stay : Option StopPlace → RunEnd → RunEnd
run_or_stay (Some p) run = ends_after 0 Stopped
run_or_stay None run = run

-- how a run of at most k steps ends from where the session stands
abbrev pub run_of : Debugging → ℕ → RunEnd
run_of d k = run_or_stay (now d).world.stop (run_end d.breakpoints d.watches k 0 (shown d))

-- a run ended after n steps in all, for this reason
abbrev pub ran_to : Debugging → ℕ → Reason → Answer
ran_to d n why = answers (at_count d n) (Ran why (standing d.code n (now (at_count d n))))

-- running back came to this end of a run, or to the start
abbrev pub back_to : Debugging → Option RunEnd → Answer
back_to d None = stands (at_count d 0)
back_to d (Some e) = ran_to d e.steps e.why

-- the session after a run that ended so, and its reply
abbrev pub ran : Debugging → RunEnd → Answer
ran d h = ran_to d (d.count + h.steps) h.why

-- what a command answers that needs the statement of this number
abbrev pub at_statement : Debugging → ℕ → Answer → Answer
at_statement d n a = if nat_lt n (length d.code.statements) then a else answers d (Refused NoSuchStatement)

-- what a command answers at the index that was found, or why it is refused
abbrev pub where_found : Debugging → Option ℕ → CommandRefusal → (ℕ → Answer) → Answer
where_found d None why go = answers d (Refused why)
where_found d (Some i) why go = go i

-- the lowest statement of a source line
abbrev pub statement_on : Debugging → ℕ → Option ℕ
statement_on d line = position_from (λ s. s.line == line) 0 d.code.statements

-- whether a variable has the wanted name and belongs to the wanted expansion
abbrev pub is_wanted : VariableRef → Variable → Bool
is_wanted v x = bytes_eq x.name v.name && (x.expansion == v.expansion)

-- the lowest variable that is wanted
abbrev pub variable_of : Debugging → VariableRef → Option ℕ
variable_of d v = position (is_wanted v) d.code.tables.variables

-- the lowest feature of a name
abbrev pub feature_of : Debugging → List ℕ → Option ℕ
feature_of d name = position (λ x. bytes_eq x name) d.code.tables.features

-- each statement of a source line gets this flag, and every other one keeps its own
abbrev pub flagged : ℕ → Bool → List CodeStatement → List Bool → List Bool
flagged line flag [] bs = bs
flagged line flag (s ∷ ss) [] = []
flagged line flag (s ∷ ss) (b ∷ bs) = (if s.line == line then flag else b) ∷ flagged line flag ss bs

-- the session with a breakpoint at each statement of a source line, or with none there
abbrev pub with_line : Debugging → ℕ → Bool → Debugging
with_line d line is_set = record d { breakpoints = flagged line is_set d.code.statements d.breakpoints }

-- what each command answers, and where the session stands afterwards
abbrev pub answer : Debugging → Command → Answer
answer d (c.Break n) = at_statement d n (answers (record d { breakpoints = slice_set d.breakpoints n true }) (Set n))
answer d (c.Clear n) = at_statement d n (answers (record d { breakpoints = slice_set d.breakpoints n false }) (Cleared n))
answer d (c.Line line) = where_found d (statement_on d line) NoSuchStatement (λ n. answers d (Found line n))
answer d (c.Step k) = stands (at_count d (d.count + effective k (shown d)))
answer d (c.Run k) = ran d (run_of d k)
answer d (c.Watch v) =
    where_found d (variable_of d v) NoSuchName (λ i. answers (record d { watches = slice_set d.watches i true }) (Watched i))
answer d (c.Unwatch v) =
    where_found d (variable_of d v) NoSuchName (λ i. answers (record d { watches = slice_set d.watches i false }) (Unwatched i))
answer d c.Where = stands d
answer d (c.Show v) =
    where_found d (variable_of d v) NoSuchName (λ i. answers d (Value i (slice_index_or (now d).world.variables i (pos 0))))
answer d (c.Feat name) =
    where_found d (feature_of d name) NoSuchName
    (λ i. answers d (Features i (recorded (now d).world.nominal i) (recorded (now d).world.actual i)))
answer d (c.List None) = answers d (Listed (now d).next)
answer d (c.List (Some n)) = at_statement d n (answers d (Listed n))
answer d (c.Out k) = answers d (Lines (length (now d).world.lines) (min k (length (now d).world.lines)))
answer d (c.Back k) = if nat_le k d.count then stands (at_count d (d.count - k)) else answers d (Refused BeforeStart)
answer d c.Reverse = back_to d (last_end d.breakpoints d.watches (started d.part d.code) (d.count - 1))
answer d c.Quit = answers d Bye

-- memory was refused after `done` of k steps: there the session stands, and its next statement makes an output line and would not stop
pub record HaltsAfter (d : Debugging) (k done : ℕ) (new : Debugging) : Type 0 where
  pub session : new ≡ at_count d (d.count + done)
  pub within : done < k
  pub wants : WantsMemory (shown (at_count d (d.count + done)))

-- how a session stands where memory was refused in a command: only steps, runs and steps back want it, and after a refused step back it is
-- as it was
abbrev pub Halts : Debugging → Command → Debugging → ℕ → Type 0
Halts d (c.Step k) new done = HaltsAfter d k done new
Halts d (c.Run k) new done = HaltsAfter d k done new × ((i : ℕ) → i < done → reason_after d.breakpoints d.watches (shown d) i ≡ None)
Halts d (c.Back k) new done = (new ≡ d) × (done ≡ 0)
Halts d c.Reverse new done = (new ≡ d) × (done ≡ 0)
Halts d _ new done = ⊥

-- a session carried a command out, or was refused memory in it
abbrev pub Carries : Debugging → Command → Debugging → Result Reply Halted → Type 0
Carries old what new (Ok r) = record { reply = r; session = new } ≡ answer old what
Carries old what new (Err h) = Halts old what new h.done

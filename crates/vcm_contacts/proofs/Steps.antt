-- A step that goes on behind a contact.
use Rattle.std.proofs.Common.{◌≡◌, ℕ, zero, suc, ◌+◌, ◌-◌, ◌<◌, ◌≤◌, true, List, [], ◌∷◌, ◌++◌, slice_get, Option, Some, None, Ok, Err, refl, sym, ap, ◌∙◌, subst, arith}
use Rattle.std.specs.Prelude.{map, replicate, option_to_list}
use Rattle.std.proofs.lemmas.List.{append-nil, map-append}
use Rattle.vcm_spec.specs.declared.stop.Stop.{Stop}
use Rattle.vcm_spec.specs.declared.stop.Stop.TheVariants.{Collision}
use Rattle.vcm_spec.specs.declared.stop.StopPlace.{StopPlace}
use Rattle.vcm_spec.specs.Setup.{setup_of}
use Rattle.vcm_spec.specs.Stepping.{unless_stopped}
use Rattle.vcm_spec.specs.Workpiece.{Workpiece}
use Rattle.vcm_spec.specs.World.{World, stopped}
use Rattle.vcm_state.specs.declared.stop.Halt.TheVariants as halts
use Rattle.vcm_state.specs.Held.{Held}
use Rattle.vcm_code.specs.declared.pair.Pair.{Pair}
use Rattle.vcm_code.specs.declared.code.Code.{Code}
use Rattle.vcm_code.specs.Code.{CodeStatement}
use Rattle.vcm_code.specs.CodeTable.{CodeState, code_state, code_step, do_op, next_prints}
use Rattle.vcm_machine.specs.Going.{HasGone}
use Rattle.vcm_machine.specs.Running.{Running, started}
use Rattle.vcm_machine.specs.inner.Runnable.{IsRunnable}
use Rattle.vcm_machine.proofs.StepLemmas as steps
use Rattle.vcm_way.specs.Steps.{TaskEnds}
use Rattle.vcm_way.specs.Tasks.{task_of}
use Rattle.vcm_way.specs.Ways.{reason}
use Rattle.vcm_way.proofs.Sent.{task_ends}
use Rattle.vcm_contacts.specs.declared.contact.Contact.{Contact}
use Rattle.vcm_steps.specs.declared.fault.Unfinished.{Unfinished}
use Rattle.vcm_steps.specs.declared.fault.Unfinished.TheVariants.{NoMemory, Memory, Write}
use Rattle.vcm_contacts.specs.Collecting.{AreContacts, AreNoContacts}
use Rattle.vcm_contacts.specs.Passing.{Passed, passed_by, passed_at, pass, pass_on, passed_after}
use Rattle.vcm_backtrace.specs.Sources.{Sourced}
use Rattle.vcm_contacts.specs.Laws.{FoundAreTheContacts}
use Rattle.vcm_contacts.specs.Noted.{Found, rounds_at, rounds_on, rounds_passed, found_at, found_on, found_after}
use Rattle.vcm_contacts.specs.inner.Standing.{HasPassed, HasGoneOn, IsRefusedHere, HasMet, contact_at, IsLed}

-- the machine of these
abbrev pub running : Workpiece → Code → CodeState → Running
running part code m = record { part = part; code = code; state = m }

abbrev told : CodeState → List Contact → Passed
told m cs = record { state = m; contacts = cs }

module _ (part : Workpiece) (code : Code) (m : CodeState) (s : CodeStatement) (none : m.world.stop ≡ None) (at : slice_get code.statements m.next ≡ Some s) where
  abbrev q : CodeState
  q = code_step (setup_of part code.tables) code.statements m

  pass_is : (o : Option Stop) → reason q.world.stop ≡ o → pass part code m ≡ passed_by part m s q o
  pass_is o e =
      ap (λ (x : Option StopPlace). unless_stopped x (told m []) (passed_at part m q (slice_get code.statements m.next))) none
      ∙ ap (passed_at part m q) at ∙ ap (passed_by part m s q) e

  -- it went on
  pub went : (p : CodeState) → q ≡ p → p.world.stop ≡ None → HasMet (running part code m) None (running part code p)
  went p e n = record {
    part_is = refl;
    code_is = refl;
    passed = pass_is None (ap (λ (x : CodeState). reason x.world.stop) e ∙ ap reason n) ∙ ap (λ (x : CodeState). told x []) e;
  }

  module _ (met : Option Contact) (new : Running) where
    -- it stopped, and was led behind a contact if it was one
    pub led_behind : (why : Stop) → q ≡ code_state (stopped m.world why m.next s.line) m.next m.pairs → IsLed (running part code m) s why met new
        → HasMet (running part code m) met new
    led_behind (Collision phase hit) e h = record {
      part_is = ap (λ (r : Running). r.part) h.1;
      code_is = ap (λ (r : Running). r.code) h.1;
      passed = pass_is _ (ap (λ (x : CodeState). reason x.world.stop) e)
          ∙ ap (λ (r : Running). told r.state (contact_at (running part code m) phase hit s ∷ [])) (sym h.1)
          ∙ ap (λ (o : Option Contact). told new.state (option_to_list o)) (sym h.0);
    }
    led_behind _ e h = record {
      part_is = ap (λ (r : Running). r.part) h.1;
      code_is = ap (λ (r : Running). r.code) h.1;
      passed = pass_is _ (ap (λ (x : CodeState). reason x.world.stop) e) ∙ ap (λ (x : CodeState). told x []) (e ∙ sym (ap (λ (r : Running). r.state) h.1))
          ∙ ap (λ (o : Option Contact). told new.state (option_to_list o)) (sym h.0);
    }

-- what carrying out a statement did
module _ (part : Workpiece) (code : Code) (w : Held) (n : ℕ) (ps : List Pair) (t : w.tables ≡ code.tables) (runnable : IsRunnable code)
    (s : CodeStatement) (at : slice_get code.statements n ≡ Some s) (none : w.state.stop ≡ None) where
  abbrev after : CodeState
  after = do_op (setup_of part w.tables) s.op s.line w.state n ps

  abbrev here : CodeState
  here = code_state w.state n ps

  abbrev next : CodeState
  next = code_step (setup_of part code.tables) code.statements here

  -- its stop is that of its motion, if that has one
  pub stopping : (new : World) (why : Stop) (qs : List Pair) → HasGone after n s.line w.state new ps qs (Err (halts.Stop why))
      → TaskEnds part w.state.position w.state.settings (task_of part.bounds.home w.state s.op) (Some why)
  stopping new why qs h =
      subst (TaskEnds part w.state.position w.state.settings (task_of part.bounds.home w.state s.op)) (ap (λ (x : CodeState). reason x.world.stop) h.0)
      (task_ends (setup_of part w.tables) w.state s.line n ps s.op)

  pub went_on : (new : World) (k : ℕ) (qs : List Pair) → HasGone after n s.line w.state new ps qs (Ok k) → new.stop ≡ w.state.stop
      → HasMet (running part code here) None (running part code (code_state new k qs))
  went_on new k qs h stop =
      went part code here s none at (code_state new k qs) (sym (ap (λ (r : Running). r.state) (steps.goes part code w n ps t runnable s at none new k qs h))) (stop ∙ none)

  pub met_at : (new : World) (why : Stop) (qs : List Pair) → HasGone after n s.line w.state new ps qs (Err (halts.Stop why)) → (met : Option Contact) (final : Running)
      → IsLed (running part code here) s why met final → HasMet (running part code here) met final
  met_at new why qs h met final led =
      let stops = steps.stops part code w n ps t runnable s at none new (stopped new why n s.line) why qs h refl in
      let is : next ≡ code_state (stopped w.state why n s.line) n ps =
      sym (ap (λ (r : Running). r.state) stops) ∙ ap (λ (x : World). code_state (stopped x why n s.line) n qs) h.1 ∙ ap (λ (x : List Pair). code_state (stopped w.state why n s.line) n x) h.2 in
      led_behind part code here s none at met final why is led

-- ---- many steps

pub starts : (s : Option Sourced) (c : Code) (m : Running) → m ≡ started m.part c → (found : List Found) → found ≡ [] → (rounds : List ℕ) → rounds ≡ replicate 32 0
    → HasPassed s m.part c 0 m found rounds
starts s c m e found none rounds begun = record {
  part_is = refl;
  code_is = ap (λ (r : Running). r.code) e;
  state_is = ap (λ (r : Running). r.state) e;
  found_are = none;
  rounds_are = begun;
}

module _ (s : Option Sourced) (part : Workpiece) (c : Code) (n : ℕ) (m : Running) (found : List Found) (rounds : List ℕ) (h : HasPassed s part c n m found rounds) where
  -- one step more
  pub steps_on : (met : Option Contact) (new : Running) → HasMet m met new
      → (later : List ℕ) → later ≡ rounds_at rounds m.state.next new.state.next new.state.world.stop (slice_get c.statements m.state.next)
      → (more : List Found) → more ≡ found ++ map (found_at s c.statements c.tables new.state.world.variables later) (option_to_list met)
      → HasPassed s part c (n + 1) new more later
  steps_on met new g later r more e =
      let here : pass part c (passed_after part c n).state ≡ told new.state (option_to_list met) =
      ap (pass part c) (sym h.state_is) ∙ ap (λ (p : Workpiece). pass p c m.state) (sym h.part_is) ∙ ap (λ (x : Code). pass m.part x m.state) (sym h.code_is) ∙ g.passed in
      let state : new.state ≡ (passed_after part c (suc n)).state = sym (ap (λ (x : Passed). x.state) here) in
      let begun : later ≡ rounds_passed part c (suc n) =
      r ∙ ap (λ (l : List ℕ). rounds_on c l m.state new.state) h.rounds_are ∙ ap (λ (x : CodeState). rounds_on c (rounds_passed part c n) x new.state) h.state_is
      ∙ ap (rounds_on c (rounds_passed part c n) (passed_after part c n).state) state in
      let all : more ≡ found_after s part c (suc n) =
      e ∙ ap (λ (l : List Found). l ++ map (found_at s c.statements c.tables new.state.world.variables later) (option_to_list met)) h.found_are
      ∙ ap (λ (l : List Found). found_after s part c n ++ l)
      (ap (λ (x : CodeState). found_on s c x later (option_to_list met)) state ∙ ap (λ (l : List ℕ). found_on s c (passed_after part c (suc n)).state l (option_to_list met)) begun
      ∙ ap (found_on s c (passed_after part c (suc n)).state (rounds_passed part c (suc n))) (sym (ap (λ (x : Passed). x.contacts) here))) in
      let count : suc n ≡ n + 1 = omega arith in
      subst (λ k. HasPassed s part c k new more later) count (record {
        part_is = g.part_is ∙ h.part_is;
        code_is = g.code_is ∙ h.code_is;
        state_is = state;
        found_are = all;
        rounds_are = begun;
      })

-- what is noted of one step
pub gone_on : (s : Option Sourced) (c : Code) (m new : Running) → m.code ≡ c → (met : Option Contact) → HasMet m met new → (w : Held) → w.state ≡ new.state.world → w.tables ≡ new.code.tables
    → (number next : ℕ) → number ≡ m.state.next → next ≡ new.state.next → (rounds later : List ℕ) → later ≡ rounds_at rounds number next w.state.stop (slice_get c.statements number)
    → (found more : List Found) → more ≡ found ++ map (found_at s c.statements w.tables w.state.variables later) (option_to_list met) → HasGoneOn s c m found rounds new more later
gone_on s c m new code met g w world tables number next this next_is rounds later begun found more e part n h =
    let table : w.tables ≡ c.tables = tables ∙ ap (λ (x : Code). x.tables) (g.code_is ∙ code) in
    steps_on s part c n m found rounds h met new g later
    (begun ∙ ap (λ i. rounds_at rounds i next w.state.stop (slice_get c.statements i)) this
    ∙ ap (λ i. rounds_at rounds m.state.next i w.state.stop (slice_get c.statements m.state.next)) next_is
    ∙ ap (λ x. rounds_at rounds m.state.next new.state.next x.stop (slice_get c.statements m.state.next)) world)
    more
    (e ∙ ap (λ t. found ++ map (found_at s c.statements t w.state.variables later) (option_to_list met)) table
    ∙ ap (λ x. found ++ map (found_at s c.statements c.tables x.variables later) (option_to_list met)) world)

-- memory is refused
pub refused : (s : Option Sourced) (part : Workpiece) (c : Code) (n : ℕ) (m : Running) (found : List Found) (rounds : List ℕ) → HasPassed s part c n m found rounds
    → (steps : ℕ) → n < steps → (f : Unfinished) → IsRefusedHere m n f → AreNoContacts part c steps f
refused s part c n m found rounds h steps few NoMemory r = tt
refused s part c n m found rounds h steps few (Write k) r = r
refused s part c n m found rounds h steps few (Memory k) r =
    let there : (n < steps) × ((passed_after part c n).state.world.stop ≡ None) × (next_prints (slice_get c.statements (passed_after part c n).state.next) ≡ true) = (
      few,
      sym (ap (λ (x : CodeState). x.world.stop) h.state_is) ∙ r.1.running,
      subst (λ (x : CodeState). next_prints (slice_get c.statements x.next) ≡ true) h.state_is
          (subst (λ (x : Code). next_prints (slice_get x.statements m.state.next) ≡ true) h.code_is r.1.prints),
    ) in
    subst (λ (j : ℕ). AreNoContacts part c steps (Memory j)) (sym r.0) there

-- a run that has stopped passes no more
module _ (part : Workpiece) (c : Code) (n : ℕ) (p : StopPlace) (e : (passed_after part c n).state.world.stop ≡ Some p) where
  at_rest : pass part c (passed_after part c n).state ≡ told (passed_after part c n).state []
  at_rest =
      ap (λ (o : Option StopPlace). unless_stopped o (told (passed_after part c n).state []) (passed_at part (passed_after part c n).state
      (code_step (setup_of part c.tables) c.statements (passed_after part c n).state) (slice_get c.statements (passed_after part c n).state.next))) e

  pub stays : (k : ℕ) → passed_after part c (n + k) ≡ passed_after part c n
  stays zero = ap (passed_after part c) (let z : n + 0 ≡ n = omega arith in z)
  stays (suc k) =
      ap (passed_after part c) (let z : n + suc k ≡ suc (n + k) = omega arith in z) ∙ ap (pass_on part c) (stays k)
      ∙ ap (λ (x : Passed). told x.state ((passed_after part c n).contacts ++ x.contacts)) at_rest
      ∙ ap (told (passed_after part c n).state) (append-nil (passed_after part c n).contacts)

  -- nor finds it more
  pub finds_no_more : (s : Option Sourced) (k : ℕ) → found_after s part c (n + k) ≡ found_after s part c n
  finds_no_more s zero = ap (found_after s part c) (let z : n + 0 ≡ n = omega arith in z)
  finds_no_more s (suc k) =
      let none : (pass part c (passed_after part c (n + k)).state).contacts ≡ [] =
      ap (λ (x : Passed). (pass part c x.state).contacts) (stays k) ∙ ap (λ (x : Passed). x.contacts) at_rest in
      ap (found_after s part c) (let z : n + suc k ≡ suc (n + k) = omega arith in z)
      ∙ ap (λ (l : List Contact). found_after s part c (n + k) ++ found_on s c (passed_after part c (suc (n + k))).state (rounds_passed part c (suc (n + k))) l) none
      ∙ append-nil (found_after s part c (n + k))
      ∙ finds_no_more s k

-- what a run that has stopped has passed is what it passes in all steps
pub ended : (s : Option Sourced) (part : Workpiece) (c : Code) (n : ℕ) (m : Running) (found : List Found) (rounds : List ℕ) → HasPassed s part c n m found rounds
    → (steps : ℕ) → n ≤ steps → (p : StopPlace) → m.state.world.stop ≡ Some p → AreContacts s part c steps found (Some p)
ended s part c n m found rounds h steps few p e =
    let all : n + (steps - n) ≡ steps = omega (arith, few) in
    let stopped : (passed_after part c n).state.world.stop ≡ Some p = sym (ap (λ (x : CodeState). x.world.stop) h.state_is) ∙ e in
    let same : passed_after part c steps ≡ passed_after part c n = ap (passed_after part c) (sym all) ∙ stays part c n p stopped (steps - n) in
    record {
      found_are = h.found_are ∙ sym (ap (found_after s part c) (sym all) ∙ finds_no_more part c n p stopped s (steps - n));
      stop_is = sym stopped ∙ sym (ap (λ (x : Passed). x.state.world.stop) same);
    }

-- those that are found are the contacts
pub found_are : FoundAreTheContacts
found_are s part c zero = refl
found_are s part c (suc n) =
    map-append (λ (f : Found). f.contact) (found_after s part c n) (found_on s c (passed_after part c (suc n)).state (rounds_passed part c (suc n)) (pass part c (passed_after part c n).state).contacts)
    ∙ ap (λ (l : List Contact). l ++ map (λ (f : Found). f.contact) (found_on s c (passed_after part c (suc n)).state (rounds_passed part c (suc n)) (pass part c (passed_after part c n).state).contacts))
    (found_are s part c n)
    ∙ ap (λ (l : List Contact). (passed_after part c n).contacts ++ l)
    (those (passed_after part c (suc n)).state (rounds_passed part c (suc n)) (pass part c (passed_after part c n).state).contacts)
  where
    those : (x : CodeState) (rounds : List ℕ) (cs : List Contact) → map (λ (f : Found). f.contact) (found_on s c x rounds cs) ≡ cs
    those x rounds [] = refl
    those x rounds (y ∷ cs) = ap (λ (l : List Contact). y ∷ l) (those x rounds cs)

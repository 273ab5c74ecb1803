-- Many steps that go on behind contacts.
use Rattle.std.proofs.Common.{◌≡◌, ℕ, zero, suc, ◌+◌, ◌-◌, ◌<◌, ◌≤◌, List, [], ◌++◌, slice_get, Option, Some, None, refl, sym, ap, ◌∙◌, subst, arith}
use Rattle.std.specs.Prelude.{map, replicate, option_to_list}
use Rattle.std.proofs.lemmas.List.{append-nil}
use Rattle.vcm_spec.specs.declared.stop.StopPlace.{StopPlace}
use Rattle.vcm_spec.specs.Stepping.{unless_stopped}
use Rattle.vcm_spec.specs.Workpiece.{Workpiece}
use Rattle.vcm_state.specs.Held.{Held}
use Rattle.vcm_code.specs.declared.code.Code.{Code}
use Rattle.vcm_code.specs.CodeTable.{CodeState}
use Rattle.vcm_machine.specs.Running.{WantsMemory}
use Rattle.vcm_steps.specs.declared.fault.Unfinished.{Unfinished}
use Rattle.vcm_steps.specs.declared.fault.Unfinished.TheVariants.{NoMemory, Memory, Write}
use Rattle.vcm_probe_set.specs.Probes.{Probe}
use Rattle.vcm_turning.specs.Turning.{Turned}
use Rattle.vcm_turning.specs.Machine.{Turner, turner, turned_of, carrier}
use Rattle.vcm_backtrace.specs.Sources.{Sourced}
use Rattle.vcm_contacts.specs.declared.contact.Contact.{Contact}
use Rattle.vcm_contacts.specs.Noted.{Found, found_at, found_on, rounds_at, rounds_on}
use Rattle.vcm_set_contacts.specs.declared.found.Lost.{Lost}
use Rattle.vcm_set_contacts.specs.declared.found.PassedEnd.{PassedEnd}
use Rattle.vcm_set_contacts.specs.Collecting.{lost_behind, AreSetContacts, AreNoSetContacts}
use Rattle.vcm_set_contacts.specs.Noted.{set_rounds, set_found}
use Rattle.vcm_set_contacts.specs.Passing.{SetPassed, rests, turned_pass_at, turned_pass, set_passed_after}
use Rattle.vcm_set_contacts.specs.inner.Standing.{HasPassedOne, HasNoted, IsLostHere, IsRefusedHere, HasSetPassed}

-- none is taken at the start
pub begins : (s : Option Sourced) (m : Turner) (c : Code) → m ≡ turner m.part m.probes m.variable c → (found : List Found) → found ≡ [] → (rounds : List ℕ) → rounds ≡ replicate 32 0
    → HasSetPassed s m.part m.probes m.variable c 0 m found rounds
begins s m c e found none rounds begun = record {
  part_is = refl;
  probes_are = refl;
  variable_is = refl;
  code_is = ap (λ (x : Turner). x.code) e;
  turned_is = sym (ap turned_of e);
  steps_are = refl;
  found_are = none;
  rounds_are = begun;
}

-- what is noted of one step
pub noted_one : (s : Option Sourced) (m new : Turner) (c : Code) → m.code ≡ c → (rounds later : List ℕ) (met : Option Contact) → HasPassedOne m (option_to_list met) new
    → (w : Held) → w.state ≡ new.state.world → w.tables ≡ new.code.tables → (number next : ℕ) → number ≡ m.state.next → next ≡ new.state.next
    → later ≡ rounds_at rounds number next w.state.stop (slice_get c.statements number) → (old more : List Found)
    → more ≡ old ++ map (found_at s c.statements w.tables w.state.variables later) (option_to_list met) → (fs : List Found) × HasNoted s m rounds fs new later × (more ≡ old ++ fs)
noted_one s m new c code rounds later met one w world tables number next this next_is begun old more e =
    let table : w.tables ≡ m.code.tables = tables ∙ ap (λ (x : Code). x.tables) one.code_is in (
      found_on s m.code new.state later (option_to_list met),
      record {
        contacts = option_to_list met;
        passed = one;
        rounds_are =
            begun ∙ ap (λ i. rounds_at rounds i next w.state.stop (slice_get c.statements i)) this
            ∙ ap (λ i. rounds_at rounds m.state.next i w.state.stop (slice_get c.statements m.state.next)) next_is
            ∙ ap (λ x. rounds_at rounds m.state.next new.state.next x.stop (slice_get c.statements m.state.next)) world
            ∙ ap (λ (x : Code). rounds_on x rounds m.state new.state) (sym code);
        found_are = refl;
      },
      e ∙ ap (λ l. old ++ l)
          (ap (λ t. map (found_at s c.statements t w.state.variables later) (option_to_list met)) table
          ∙ ap (λ x. map (found_at s c.statements m.code.tables x.variables later) (option_to_list met)) world
          ∙ ap (λ (x : Code). map (found_at s x.statements m.code.tables new.state.world.variables later) (option_to_list met)) (sym code)),
    )

module _ (s : Option Sourced) (part : Workpiece) (ps : List Probe) (v : ℕ) (c : Code) where
  -- behind n steps it stands here, behind so many that were taken, and this was found
  abbrev Stands : ℕ → Turned → ℕ → List Found → Type 0
  Stands n t k fs = ((set_passed_after part ps v c n).turned ≡ t) × ((set_passed_after part ps v c n).steps ≡ k) × (set_found s part ps v c n ≡ fs)

  -- one that adds nothing
  nothing_of : (n : ℕ) (t new : Turned) (k : ℕ) (fs : List Found) → Stands n t k fs → turned_pass part ps v c t ≡ rests new → Stands (suc n) new k fs
  nothing_of n t new k fs h e =
      let q : turned_pass part ps v c (set_passed_after part ps v c n).turned ≡ rests new = ap (turned_pass part ps v c) h.0 ∙ e in (
        ap (λ (x : SetPassed). x.turned) q,
        ap (λ (x : SetPassed). (set_passed_after part ps v c n).steps + x.steps) q
            ∙ (let z : (set_passed_after part ps v c n).steps + 0 ≡ (set_passed_after part ps v c n).steps = omega arith in z) ∙ h.1,
        ap (λ (x : SetPassed). set_found s part ps v c n ++ found_on s c (set_passed_after part ps v c (suc n)).turned.state (set_rounds part ps v c (suc n)) x.contacts) q
            ∙ append-nil (set_found s part ps v c n) ∙ h.2,
      )

  -- a run that takes no step more stays where it is
  stays : (n : ℕ) (t : Turned) (k : ℕ) (fs : List Found) → Stands n t k fs → turned_pass part ps v c t ≡ rests t → (j : ℕ) → Stands (n + j) t k fs
  stays n t k fs h e zero = subst (λ i. Stands i t k fs) (let z : n ≡ n + 0 = omega arith in z) h
  stays n t k fs h e (suc j) = subst (λ i. Stands i t k fs) (let z : suc (n + j) ≡ n + suc j = omega arith in z) (nothing_of (n + j) t t k fs (stays n t k fs h e j) e)

  all_are : (n steps : ℕ) (t : Turned) (k : ℕ) (fs : List Found) → Stands n t k fs → turned_pass part ps v c t ≡ rests t → n ≤ steps → Stands steps t k fs
  all_are n steps t k fs h e few =
      let all : n + (steps - n) ≡ steps = omega (arith, few) in subst (λ i. Stands i t k fs) all (stays n t k fs h e (steps - n))

  -- how it ended
  abbrev end_at : Turned → ℕ → PassedEnd
  end_at t k = record { stop = t.state.world.stop; lost = lost_behind k t.ended }

  -- so its contacts and its end are these
  they_are : (steps : ℕ) (t : Turned) (k : ℕ) (fs : List Found) → Stands steps t k fs → (found : List Found) (end : PassedEnd) → found ≡ fs → end ≡ end_at t k
      → AreSetContacts s part ps v c steps found end
  they_are steps t k fs h found end f g = record {
    found_are = f ∙ sym h.2;
    end_is = g ∙ sym (ap (λ (x : Turned). end_at x (set_passed_after part ps v c steps).steps) h.0 ∙ ap (end_at t) h.1);
  }

  module _ (n : ℕ) (m : Turner) (found : List Found) (rounds : List ℕ) (h : HasSetPassed s part ps v c n m found rounds) where
    same : turned_pass m.part m.probes m.variable m.code (turned_of m) ≡ turned_pass part ps v c (turned_of m)
    same =
        ap (λ (x : Workpiece). turned_pass x m.probes m.variable m.code (turned_of m)) h.part_is
        ∙ ap (λ (x : List Probe). turned_pass part x m.variable m.code (turned_of m)) h.probes_are
        ∙ ap (λ (x : ℕ). turned_pass part ps x m.code (turned_of m)) h.variable_is
        ∙ ap (λ (x : Code). turned_pass part ps v x (turned_of m)) h.code_is

    here : Stands n (turned_of m) n found
    here = (h.turned_is, h.steps_are, sym h.found_are)

    -- one step more
    pub goes_on : (one : List Found) (new : Turner) (later : List ℕ) (more : List Found) → HasNoted s m rounds one new later → more ≡ found ++ one
        → HasSetPassed s part ps v c (n + 1) new more later
    goes_on one new later more r e =
        let count : suc n ≡ n + 1 = omega arith in
        let p = r.passed in
        let q : turned_pass part ps v c (set_passed_after part ps v c n).turned ≡ record { turned = turned_of new; steps = 1; contacts = r.contacts } =
        ap (turned_pass part ps v c) h.turned_is ∙ sym same ∙ p.passed in
        let turned : (set_passed_after part ps v c (suc n)).turned ≡ turned_of new = ap (λ (x : SetPassed). x.turned) q in
        let state : new.state ≡ (set_passed_after part ps v c (suc n)).turned.state = sym (ap (λ (x : Turned). x.state) turned) in
        let begun : later ≡ set_rounds part ps v c (suc n) =
        r.rounds_are ∙ ap (λ (x : Code). rounds_on x rounds m.state new.state) h.code_is ∙ ap (λ (l : List ℕ). rounds_on c l m.state new.state) h.rounds_are
        ∙ ap (λ (x : Turned). rounds_on c (set_rounds part ps v c n) x.state new.state) (sym h.turned_is)
        ∙ ap (rounds_on c (set_rounds part ps v c n) (set_passed_after part ps v c n).turned.state) state in
        let all : more ≡ set_found s part ps v c (suc n) =
        e ∙ ap (λ (l : List Found). l ++ one) h.found_are
        ∙ ap (λ (l : List Found). set_found s part ps v c n ++ l)
        (r.found_are ∙ ap (λ (x : Code). found_on s x new.state later r.contacts) h.code_is ∙ ap (λ (x : CodeState). found_on s c x later r.contacts) state
        ∙ ap (λ (l : List ℕ). found_on s c (set_passed_after part ps v c (suc n)).turned.state l r.contacts) begun
        ∙ ap (λ (x : SetPassed). found_on s c (set_passed_after part ps v c (suc n)).turned.state (set_rounds part ps v c (suc n)) x.contacts) (sym q)) in
        subst (λ (k : ℕ). HasSetPassed s part ps v c k new more later) count (record {
          part_is = p.part_is ∙ h.part_is;
          probes_are = p.probes_are ∙ h.probes_are;
          variable_is = p.variable_is ∙ h.variable_is;
          code_is = p.code_is ∙ h.code_is;
          turned_is = turned;
          steps_are = ap (λ (x : SetPassed). (set_passed_after part ps v c n).steps + x.steps) q ∙ ap (λ k. k + 1) h.steps_are ∙ sym count;
          found_are = all;
          rounds_are = begun;
        })

    -- it has stopped
    pub stopped : (steps : ℕ) → n ≤ steps → (p : StopPlace) → m.state.world.stop ≡ Some p → AreSetContacts s part ps v c steps found (record { stop = Some p; lost = None })
    stopped steps few p e =
        let t = turned_of m in
        let rest : turned_pass part ps v c t ≡ rests t =
        ap (λ (o : Option StopPlace). unless_stopped o (rests t) (turned_pass_at part ps v c t (slice_get c.statements t.state.next))) e in
        they_are steps t n found (all_are n steps t n found here rest few) found (record { stop = Some p; lost = None }) refl
        (ap (λ (o : Option StopPlace). record { stop = o; lost = None }) (sym e))

    -- all steps were taken
    pub counted : (steps : ℕ) → n ≡ steps → (stop : Option StopPlace) → stop ≡ m.state.world.stop → AreSetContacts s part ps v c steps found (record { stop = stop; lost = None })
    counted steps all stop e =
        they_are steps (turned_of m) n found (subst (λ i. Stands i (turned_of m) n found) all here) found (record { stop = stop; lost = None }) refl
        (ap (λ (o : Option StopPlace). record { stop = o; lost = None }) e)

    -- it ends without a probe
    pub lost_there : (steps : ℕ) → n < steps → (l : Lost) → IsLostHere m n l → m.state.world.stop ≡ None → (all : List Found) → all ≡ found
        → AreSetContacts s part ps v c steps all (record { stop = None; lost = Some l })
    lost_there steps few l r none all e =
        let new : Turned = record { state = m.state; on = m.on; ended = Some l.probe } in
        let there : Stands (suc n) new n found = nothing_of n (turned_of m) new n found here (sym same ∙ r.passed) in
        they_are steps new n found (all_are (suc n) steps new n found there refl (omega (arith, few))) all (record { stop = None; lost = Some l }) e
        (ap (λ (o : Option StopPlace). record { stop = o; lost = Some l }) (sym none)
        ∙ ap (λ (k : ℕ). record { stop = m.state.world.stop; lost = Some (record { probe = l.probe; step = k }) }) r.step_is)

    -- memory is refused
    pub refused : (steps : ℕ) → n < steps → (f : Unfinished) → IsRefusedHere m n f → AreNoSetContacts part ps v c steps f
    refused steps few NoMemory r = tt
    refused steps few (Write k) r = r
    refused steps few (Memory k) r =
        let wants : WantsMemory (carrier part ps c (turned_of m)) =
        subst (λ (x : Code). WantsMemory (carrier part ps x (turned_of m))) h.code_is
        (subst (λ (x : List Probe). WantsMemory (carrier part x m.code (turned_of m))) h.probes_are
        (subst (λ (x : Workpiece). WantsMemory (carrier x m.probes m.code (turned_of m))) h.part_is r.1)) in
        let there : (n < steps) × ((set_passed_after part ps v c n).turned.ended ≡ None) × WantsMemory (carrier part ps c (set_passed_after part ps v c n).turned) = (
          few,
          ap (λ (x : Turned). x.ended) h.turned_is,
          subst (λ (x : Turned). WantsMemory (carrier part ps c x)) (sym h.turned_is) wants,
        ) in
        subst (λ (j : ℕ). AreNoSetContacts part ps v c steps (Memory j)) (sym r.0) there

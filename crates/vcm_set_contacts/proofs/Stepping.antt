-- One step that goes on behind a contact, and the turn behind it.
use Rattle.std.proofs.Common.{◌≡◌, ℕ, ◌+◌, Bool, true, false, List, [], ◌∷◌, slice_get, Option, Some, None, refl, sym, ap, ◌∙◌, subst}
use Rattle.std.specs.Prelude.{option_to_list}
use Rattle.vcm_spec.specs.declared.stop.Stop.{Stop}
use Rattle.vcm_spec.specs.declared.stop.Stop.TheVariants.{Collision}
use Rattle.vcm_spec.specs.declared.stop.StopPlace.{StopPlace}
use Rattle.vcm_spec.specs.Stepping.{unless_stopped}
use Rattle.vcm_code.specs.Code.{CodeStatement}
use Rattle.vcm_code.specs.CodeTable.{CodeState}
use Rattle.vcm_machine.proofs.Codes.{same_at}
use Rattle.vcm_way.specs.Ways.{reason}
use Rattle.vcm_turning.specs.declared.ended.NoProbe.{NoProbe}
use Rattle.vcm_turning.specs.declared.turn.Turn.{Turn}
use Rattle.vcm_turning.specs.Choosing.{value_of, put_at}
use Rattle.vcm_turning.specs.Turning.{Turned, is_lost, put_behind, put_on, left, by_loss}
use Rattle.vcm_turning.specs.Machine.{Turner, turned_of, StandsAt, HasGone, stepped_of, halted, with_probe}
use Rattle.vcm_turning.proofs.Taken.{put_is, part_kept, probes_kept, variable_kept, code_kept}
use Rattle.vcm_contacts.specs.declared.contact.Contact.{Contact}
use Rattle.vcm_contacts.specs.Passing.{Passed, passed_by, passed_at, pass}
use Rattle.vcm_set_contacts.specs.declared.found.Lost.{Lost}
use Rattle.vcm_set_contacts.specs.Passing.{rests, turned_behind, turned_pass_at, turned_pass}
use Rattle.vcm_set_contacts.specs.inner.Standing.{contact_at, part_of, moved, IsStopping, IsLed, HasMet, HasStepped, HasPassedOne, IsLostHere}

abbrev told : CodeState → List Contact → Passed
told m cs = record { state = m; contacts = cs }

-- ---- the step of the code

module _ (m : Turner) (s : CodeStatement) (running : m.state.world.stop ≡ None) (stands : StandsAt m s) where
  pass_is : (o : Option Stop) → reason (stepped_of m).world.stop ≡ o → pass (part_of m) m.code m.state ≡ passed_by (part_of m) m.state s (stepped_of m) o
  pass_is o e =
      ap (λ (x : Option StopPlace). unless_stopped x (told m.state []) (passed_at (part_of m) m.state (stepped_of m) (slice_get m.code.statements m.state.next))) running
      ∙ ap (passed_at (part_of m) m.state (stepped_of m)) stands ∙ ap (passed_by (part_of m) m.state s (stepped_of m)) e

  module _ (met : Option Contact) (new : Turner) where
    -- it stopped, and was led on behind a contact if it was one
    pub led_behind : (why : Stop) → stepped_of m ≡ (halted m s why).state → IsLed m s why met new → HasMet m met new
    led_behind (Collision phase hit) e h = record {
      new_is = h.1 ∙ ap (moved m) (sym (ap (λ (x : Turner). x.state) h.1));
      passed = pass_is (Some (Collision phase hit)) (ap (λ (x : CodeState). reason x.world.stop) e)
          ∙ ap (λ (x : Turner). told x.state (contact_at m phase hit s ∷ [])) (sym h.1)
          ∙ ap (λ (o : Option Contact). told new.state (option_to_list o)) (sym h.0);
    }
    led_behind why e h = record {
      new_is = h.1 ∙ ap (moved m) (sym (ap (λ (x : Turner). x.state) h.1));
      passed = pass_is (Some why) (ap (λ (x : CodeState). reason x.world.stop) e)
          ∙ ap (λ (x : CodeState). told x []) (e ∙ sym (ap (λ (x : Turner). x.state) h.1))
          ∙ ap (λ (o : Option Contact). told new.state (option_to_list o)) (sym h.0);
    }

-- it went on
module _ (m : Turner) (running : m.state.world.stop ≡ None) (new : Turner) (h : HasGone m None new) where
  abbrev q : CodeState
  q = stepped_of m

  none_there : (o : Option CodeStatement) → passed_at (part_of m) m.state q o ≡ told q []
  none_there None = refl
  none_there (Some s) = ap (passed_by (part_of m) m.state s q) (ap reason (sym (ap (λ (x : Turner). x.state.world.stop) h.0) ∙ h.1))

  pub went : HasMet m None new
  went = record {
    new_is = h.0 ∙ ap (moved m) (sym (ap (λ (x : Turner). x.state) h.0));
    passed =
        ap (λ (x : Option StopPlace). unless_stopped x (told m.state []) (passed_at (part_of m) m.state q (slice_get m.code.statements m.state.next))) running
        ∙ none_there (slice_get m.code.statements m.state.next)
        ∙ ap (λ (x : CodeState). told x []) (sym (ap (λ (x : Turner). x.state) h.0));
  }

-- a machine that is as it was, at a stop of the statement that is next
module _ (old mid : Turner) (why : Stop) (h : HasGone old (Some why) mid) where
  pub stopping_at : (s : CodeStatement) × IsStopping mid why s
  stopping_at = subst (λ (x : Turner). (s : CodeStatement) × IsStopping x why s) (sym h.0) (h.1, record { stands = h.2; stops = h.3 })

  pub still_running : old.state.world.stop ≡ None → mid.state.world.stop ≡ None
  still_running running = ap (λ (x : Turner). x.state.world.stop) h.0 ∙ running

  pub met_at : old.state.world.stop ≡ None → (met : Option Contact) (new : Turner) → (s : CodeStatement) × StandsAt mid s × IsLed mid s why met new → HasMet old met new
  met_at running met new l =
      let s = l.0 in
      let stands : StandsAt old s = subst (λ (x : Turner). StandsAt x s) h.0 l.1 in
      let same : h.1 ≡ s = same_at old.code.statements old.state.next h.1 s h.2 stands in
      led_behind old s running stands met new why (h.3 ∙ ap (λ (x : CodeStatement). (halted old x why).state) same) (subst (λ (x : Turner). IsLed x s why met new) h.0 l.2)

-- ---- the turn behind it

module _ (old : Turner) (s : CodeStatement) (running : old.state.world.stop ≡ None) (stands : StandsAt old s) where
  abbrev t : Turned
  t = turned_of old

  pass_by : (b : Bool) → is_lost old.part.bounds.home old.probes old.variable t s.op ≡ b
      → turned_pass old.part old.probes old.variable old.code t
      ≡ by_loss b (rests (left old.variable t s)) (turned_behind old.probes old.variable old.on (pass (part_of old) old.code old.state))
  pass_by b e =
      ap (λ (o : Option StopPlace). unless_stopped o (rests t) (turned_pass_at old.part old.probes old.variable old.code t (slice_get old.code.statements old.state.next))) running
      ∙ ap (turned_pass_at old.part old.probes old.variable old.code t) stands
      ∙ ap (λ (b : Bool). by_loss b (rests (left old.variable t s)) (turned_behind old.probes old.variable old.on (pass (part_of old) old.code old.state))) e

  -- where the statement is lost, the run ends
  pub lost_here : is_lost old.part.bounds.home old.probes old.variable t s.op ≡ true → (done : ℕ) (l : Lost) → l.step ≡ done + 1
      → Some l.probe ≡ (left old.variable t s).ended → IsLostHere old done l
  lost_here e done l f g = record {
    step_is = f;
    passed = pass_by true e ∙ ap (λ (o : Option NoProbe). rests (record { state = old.state; on = old.on; ended = o })) (sym g);
  }

  -- else it is a step
  pub stepped_one : is_lost old.part.bounds.home old.probes old.variable t s.op ≡ false → (met : Option Contact) (new : Turner) → HasStepped old met new
      → HasPassedOne old (option_to_list met) new
  stepped_one e met new h =
      let mid = h.between in
      let is = h.has_met.new_is in
      let put = put_behind mid.probes mid.variable mid.state mid.on in
      let turned_is : turned_of new ≡ put_on old.probes mid.state old.on (put_behind old.probes old.variable mid.state old.on) =
      ap turned_of h.new_is ∙ put_is mid put ∙ ap (λ (x : Turner). put_on x.probes mid.state x.on (put_behind x.probes x.variable mid.state x.on)) is in
      record {
        part_is = ap (λ (x : Turner). x.part) h.new_is ∙ part_kept mid put ∙ ap (λ (x : Turner). x.part) is;
        probes_are = ap (λ (x : Turner). x.probes) h.new_is ∙ probes_kept mid put ∙ ap (λ (x : Turner). x.probes) is;
        variable_is = ap (λ (x : Turner). x.variable) h.new_is ∙ variable_kept mid put ∙ ap (λ (x : Turner). x.variable) is;
        code_is = ap (λ (x : Turner). x.code) h.new_is ∙ code_kept mid put ∙ ap (λ (x : Turner). x.code) is;
        passed = pass_by false e ∙ ap (turned_behind old.probes old.variable old.on) h.has_met.passed
            ∙ ap (λ (x : Turned). record { turned = x; steps = 1; contacts = option_to_list met }) (sym turned_is);
      }

-- the chosen probe is put on, unless the step has stopped
pub stays_on : (m : Turner) (p : StopPlace) → m.state.world.stop ≡ Some p → m ≡ with_probe m (put_behind m.probes m.variable m.state m.on)
stays_on m p e =
    ap (λ (o : Option StopPlace). with_probe m (unless_stopped o None (put_at m.probes m.on (value_of m.state.world m.variable)))) (sym e)

pub turns_on : (m new : Turner) (turn : Turn) → m.state.world.stop ≡ None → turn ≡ record { stood = m.state.world.position; put = put_at m.probes m.on (value_of m.state.world m.variable) }
    → new ≡ with_probe m turn.put → new ≡ with_probe m (put_behind m.probes m.variable m.state m.on)
turns_on m new turn e f g =
    g ∙ ap (λ (x : Turn). with_probe m x.put) f
    ∙ ap (λ (o : Option StopPlace). with_probe m (unless_stopped o None (put_at m.probes m.on (value_of m.state.world m.variable)))) (sym e)

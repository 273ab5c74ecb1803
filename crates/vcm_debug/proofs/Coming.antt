-- Machines that take steps.
use Rattle.std.proofs.Common.{◌≡◌, ℕ, suc, ◌+◌, ◌-◌, ◌<◌, ◌≤◌, Option, Some, None, Ok, refl, sym, ap, ◌∙◌, arith, true, false}
use Rattle.std.specs.Prelude.{List, slice_get}
use Rattle.std.specs.Option.{is_some}
use Rattle.vcm_spec.specs.declared.stop.StopPlace.{StopPlace}
use Rattle.vcm_spec.specs.Setup.{Setup}
use Rattle.vcm_spec.specs.Stepping.{unless_stopped}
use Rattle.vcm_spec.proofs.Steps.{none_effective, effective_reaches}
use Rattle.vcm_code.specs.Code.{CodeStatement}
use Rattle.vcm_code.specs.CodeTable.{CodeState, code_stop, code_step, fetched}
use Rattle.vcm_machine.specs.Running.{Running, setup, moved, started, later}
use Rattle.vcm_machine.proofs.LawLemmas.{add_up}
use Rattle.vcm_debug.specs.Halting.{effective}
use Rattle.vcm_debug.specs.inner.Going.{begun, HasStepped}
use Rattle.vcm_debug.proofs.Stepping.{one_more}

-- a machine after `count` steps, and `done` more
pub arrived : (old new : Running) (count done : ℕ) → old ≡ begun old count → new ≡ later done old → new ≡ begun old (count + done)
arrived old new count done e f = f ∙ ap (λ h. later done h) e ∙ add_up count done (started old.part old.code)

pub stopped_effective : (n : ℕ) (m : Running) (p : StopPlace) → m.state.world.stop ≡ Some p → effective n m ≡ 0
stopped_effective n m p e = none_effective code_stop (code_step (setup m) m.code.statements) n m.state p e

pub running_effective : (n : ℕ) (m : Running) → m.state.world.stop ≡ None → effective (suc n) m ≡ suc (effective n (later 1 m))
running_effective n m e = ap (λ o. unless_stopped o 0 (suc (effective n (later 1 m)))) e

-- a step at a stop
state_stays : (s : Setup) (code : List CodeStatement) (m : CodeState) (p : StopPlace) → code_stop m ≡ Some p → code_step s code m ≡ m
state_stays s code m p e = ap (λ o. unless_stopped o m (fetched s (slice_get code m.next) m.world m.next m.pairs)) e

-- only the steps before a stop count
pub later_effective : (n : ℕ) (m : Running) → later n m ≡ later (effective n m) m
later_effective n m =
    ap (moved m) (effective_reaches code_stop (code_step (setup m) m.code.statements) (state_stays (setup m) m.code.statements) n m.state)

-- after `done` of at most k steps none has stopped
pub record HasGone (k : ℕ) (old new : Running) (done : ℕ) : Type 0 where
  pub new_is : new ≡ later done old
  pub within : done ≤ k
  pub rest : done + effective (k - done) (later done old) ≡ effective k old

module _ (k : ℕ) (old : Running) where
  module _ (new : Running) (done : ℕ) (gone : HasGone k old new done) where
    abbrev s : Running
    s = later done old

    pub gone_is : (next : Running) → next ≡ later 1 new → next ≡ later (done + 1) old
    gone_is next stepped = stepped ∙ ap (λ h. later 1 h) gone.new_is ∙ sym (one_more done old)

    pub goes_on : (next : Running) → done < k → new.state.world.stop ≡ None → next ≡ later 1 new → HasGone k old next (done + 1)
    goes_on next l none stepped =
        let running : s.state.world.stop ≡ None = sym (ap (λ h. h.state.world.stop) gone.new_is) ∙ none in
        let left : k - done ≡ suc (k - (done + 1)) = omega arith in
        let counted = ap (λ m. effective m s) left ∙ running_effective (k - (done + 1)) s running in
        let again = ap (λ x. effective (k - (done + 1)) x) (one_more done old) in
        record {
          new_is = gone_is next stepped;
          within = omega arith;
          rest = (let r = gone.rest in omega (arith, counted, again, r));
        }

    -- it has stopped
    pub stops : (p : StopPlace) → new.state.world.stop ≡ Some p → HasStepped k old new (Ok done)
    stops p e =
        let none = stopped_effective (k - done) s p (sym (ap (λ h. h.state.world.stop) gone.new_is) ∙ e) in
        (gone.new_is, (let r = gone.rest in omega (arith, none, r)), gone.within)

    -- the same of what was asked
    pub has_stopped : (o : Option StopPlace) → new.state.world.stop ≡ o → is_some o ≡ true → HasStepped k old new (Ok done)
    has_stopped None e f = absurd cc
    has_stopped (Some p) e f = stops p e

pub none_of : {A : Type 0} → (o : Option A) → is_some o ≡ false → o ≡ None
none_of None e = refl
none_of (Some x) e = absurd cc

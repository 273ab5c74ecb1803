-- The probe is at rest in every state of a structured program.
use Rattle.std.proofs.Common.{ℕ, zero, suc, ◌+◌, ℤ, List, [], ◌∷◌, Bool, true, false, Option, Some, None, ◌≡◌, refl}
use Rattle.vcm_spec.specs.declared.stop.Stop.{Stop}
use Rattle.vcm_spec.specs.declared.stop.Stop.TheVariants.{Ended, ZeroStep}
use Rattle.vcm_spec.specs.declared.stop.StopPlace.{StopPlace}
use Rattle.vcm_spec.specs.Value.{value_of}
use Rattle.vcm_spec.specs.Setup.{Setup}
use Rattle.vcm_spec.specs.Workpiece.{IsValid, Workpiece}
use Rattle.vcm_spec.specs.World.{World, with_variable, stopped}
use Rattle.vcm_spec.specs.Outcome.{Outcome, Gives, Stops}
use Rattle.vcm_spec.specs.Effect.{effect, value_in}
use Rattle.vcm_spec.specs.Control.{test_in, with_next_index, is_zero, is_past}
use Rattle.vcm_spec.specs.Program.{Node, simple, label, jump, choice, choice_else, do_loop, meas, select, ending}
use Rattle.vcm_spec.specs.Program.{sizes, case_sizes, node_at, number_at, chosen}
use Rattle.vcm_spec.specs.Table.{Entry, Rest, Closes, Loop, State, state, unless_stopped, or_stop, if_true}
use Rattle.vcm_spec.specs.Table.{front, landing, selected, at_node, act, step, steps, opening}
use Rattle.vcm_spec.specs.Rests.{Rests}
use Rattle.vcm_spec.proofs.StayingAtRest.{opens_at_rest}
use Rattle.vcm_machine.specs.RestsAlways.{ProgramsRest}
use Rattle.vcm_machine.proofs.RestsAlong.{with_stop, with_value, effect_rests, index_rests}

-- the probe is at rest in the world of a state
record Still (part : Workpiece) (s : State) : Type 0 where
  still : Rests part s.world

module _ (su : Setup) (valid : IsValid su.part) (w : World) (r : Rests su.part w) (old : List Entry) where
  here : (es : List Entry) → Still su.part (state w es)
  here es = record { still = r }

  stops : (why : Stop) (n line : ℕ) → Still su.part (state (stopped w why n line) old)
  stops why n line = record { still = with_stop su.part w why n line r }

  goes_or_stops : {A : Type 0} (o : Outcome A) (n line : ℕ) (go : A → State) → ((x : A) → o ≡ Gives x → Still su.part (go x)) → Still su.part (or_stop o w n line old go)
  goes_or_stops (Gives x) n line go h = h x refl
  goes_or_stops (Stops why) n line go h = stops why n line

  picks : (t : Bool) (a b : State) → Still su.part a → Still su.part b → Still su.part (if_true t a b)
  picks true a b h k = h
  picks false a b h k = k

  begins : (n line v : ℕ) (on : List Entry) (inside : ℤ → ℤ → List Entry) (a b c : Outcome ℤ) → Still su.part (or_stop a w n line old (λ x.
      or_stop b w n line old (λ y.
      or_stop c w n line old (λ z.
      if_true (is_zero z) (state (stopped w ZeroStep n line) old)
      (if_true (is_past (with_variable w v x) v y z) (state (with_variable w v x) on)
      (state (with_variable w v x) (inside y z)))))))
  begins n line v on inside (Stops why) b c = stops why n line
  begins n line v on inside (Gives x) (Stops why) c = stops why n line
  begins n line v on inside (Gives x) (Gives y) (Stops why) = stops why n line
  begins n line v on inside (Gives x) (Gives y) (Gives z) =
      let s = with_value su.part w v x r in
      picks (is_zero z) (state (stopped w ZeroStep n line) old) (if_true (is_past (with_variable w v x) v y z) (state (with_variable w v x) on) (state (with_variable w v x) (inside y z)))
      (stops ZeroStep n line)
      (picks (is_past (with_variable w v x) v y z) (state (with_variable w v x) on) (state (with_variable w v x) (inside y z)) (record { still = s }) (record { still = s }))

  -- each node leaves the probe at rest
  node_rests : (o : Option Node) (n : ℕ) (es on : List Entry) → Still su.part (at_node su o n w old es on)
  node_rests None n es on = here old
  node_rests (Some (simple line what)) n es on =
      goes_or_stops (effect value_of su w what) n line (λ w'. state w' on) (λ w' e. record { still = effect_rests su valid w r value_of what w' e })
  node_rests (Some (label line l)) n es on = here on
  node_rests (Some (jump line l)) n es on = here (landing l es)
  node_rests (Some (choice line test first close)) n es on =
      goes_or_stops (test_in value_of w test) n line
      (λ t. if_true t (state w (Rest first (n + 1) 0 ∷ Closes (n + 1 + sizes first) ∷ on)) (state w (Closes (n + 1 + sizes first) ∷ on)))
      (λ t e. picks t (state w (Rest first (n + 1) 0 ∷ Closes (n + 1 + sizes first) ∷ on)) (state w (Closes (n + 1 + sizes first) ∷ on))
      (here (Rest first (n + 1) 0 ∷ Closes (n + 1 + sizes first) ∷ on)) (here (Closes (n + 1 + sizes first) ∷ on)))
  node_rests (Some (choice_else line test first mid second close)) n es on =
      goes_or_stops (test_in value_of w test) n line
      (λ t. if_true t (state w (Rest first (n + 1) 0 ∷ Closes (n + 1 + sizes first) ∷ on))
      (state w (Rest second (n + 1 + sizes first + 1) 0 ∷ Closes (n + 1 + sizes first + 1 + sizes second) ∷ on)))
      (λ t e. picks t (state w (Rest first (n + 1) 0 ∷ Closes (n + 1 + sizes first) ∷ on))
      (state w (Rest second (n + 1 + sizes first + 1) 0 ∷ Closes (n + 1 + sizes first + 1 + sizes second) ∷ on))
      (here (Rest first (n + 1) 0 ∷ Closes (n + 1 + sizes first) ∷ on))
      (here (Rest second (n + 1 + sizes first + 1) 0 ∷ Closes (n + 1 + sizes first + 1 + sizes second) ∷ on)))
  node_rests (Some (do_loop line v initial limit increment body close)) n es on =
      begins n line v on (λ b c. Rest body (n + 1) 0 ∷ Loop n v body close b c ∷ on)
      (value_in value_of w initial) (value_in value_of w limit) (value_in value_of w increment)
  node_rests (Some (meas line feature body close)) n es on = here (Rest body (n + 1) 0 ∷ Closes (n + 1 + sizes body) ∷ on)
  node_rests (Some (select line value cases close)) n es on =
      goes_or_stops (value_in value_of w value) n line (λ z. state w (selected (chosen z cases (n + 1)) (n + 1 + case_sizes cases) on))
      (λ z e. here (selected (chosen z cases (n + 1)) (n + 1 + case_sizes cases) on))
  node_rests (Some (ending line)) n es on = stops Ended n line

  -- so does the step at each entry
  act_rests : (es : List Entry) → Still su.part (act su es w old)
  act_rests [] = here old
  act_rests (Rest b base i ∷ es) = node_rests (node_at b i) (number_at b base i) (Rest b base i ∷ es) (Rest b base (suc i) ∷ es)
  act_rests (Closes n ∷ es) = here es
  act_rests (Loop at v b close limit increment ∷ es) =
      goes_or_stops (with_next_index w v increment) (at + 1 + sizes b) close
      (λ w'. if_true (is_past w' v limit increment) (state w' es) (state w' (Rest b (at + 1) 0 ∷ Loop at v b close limit increment ∷ es)))
      (λ w' e. let s = index_rests su valid w r v increment w' e in
      picks (is_past w' v limit increment) (state w' es) (state w' (Rest b (at + 1) 0 ∷ Loop at v b close limit increment ∷ es))
      (record { still = s }) (record { still = s }))

-- so does a step, also where it has stopped
step_rests : (su : Setup) → IsValid su.part → (s : State) → Rests su.part s.world → Rests su.part (step su s).world
step_rests su valid s r = (by s.world.stop).still
  where
    by : (o : Option StopPlace) → Still su.part (unless_stopped o s (act su (front s.entries) s.world s.entries))
    by (Some p) = record { still = r }
    by None = act_rests su valid s.world r s.entries (front s.entries)

-- and n of them
steps_rest : (su : Setup) → IsValid su.part → (n : ℕ) (s : State) → Rests su.part s.world → Rests su.part (steps su n s).world
steps_rest su valid zero s r = r
steps_rest su valid (suc n) s r = steps_rest su valid n (step su s) (step_rests su valid s r)

pub programs_rest : ProgramsRest
programs_rest su valid program n = steps_rest su valid n (opening su program) (opens_at_rest su valid)

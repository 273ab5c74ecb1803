-- A run keeps as many variables as its code has.
use Rattle.std.proofs.Common.{◌≡◌, ℕ, zero, suc, ◌+◌, ℤ, Bool, true, false, Option, Some, None, List, [], ◌∷◌, ◌++◌, refl, sym, ap, ◌∙◌, arith}
use Rattle.std.specs.Prelude.{length, replicate, pos, slice_get, slice_set, Result}
use Rattle.vcm_num.specs.declared.number.Fault.{Fault}
use Rattle.std.specs.List.{AllByRecursion}
use Rattle.std.proofs.lemmas.List.{length-set}
use Rattle.vcm_num.specs.declared.point.Point.{Point}
use Rattle.vcm_num.specs.Point.{coordinate}
use Rattle.vcm_spec.specs.declared.stop.StopPlace.{StopPlace}
use Rattle.vcm_spec.specs.declared.stop.Stop.TheVariants.{ZeroStep}
use Rattle.vcm_spec.specs.Frame.{direction, to_part}
use Rattle.vcm_spec.specs.FirstTouch.{touch}
use Rattle.vcm_spec.specs.Setup.{Setup}
use Rattle.vcm_spec.specs.Simple.{Simple}
use Rattle.vcm_spec.specs.Value.{items_value}
use Rattle.vcm_spec.specs.declared.simple.Simple.TheVariants.{Goto, GoHome, Assign, Feat, PtMeas, SnSet, Trans, Rotate, Recall, Obtain, Output, Text}
use Rattle.vcm_spec.specs.World.{World, with_variable, stopped}
use Rattle.vcm_spec.specs.Workpiece.{Workpiece}
use Rattle.vcm_spec.specs.Outcome.{Outcome, Gives, Stops, ◌>>=◌, point_at}
use Rattle.vcm_spec.specs.Effect.{effect, carried_out, value_in, go, with_line, measured_direction, machine_point, feature_in}
use Rattle.vcm_spec.specs.Control.{test_in, with_next_index, is_zero, is_past}
use Rattle.vcm_spec.specs.Stepping.{unless_stopped}
use Rattle.vcm_spec.specs.Table.{if_true}
use Rattle.vcm_spec.proofs.Steps.{add_steps}
use Rattle.vcm_code.specs.declared.pair.Pair.{Pair}
use Rattle.vcm_code.specs.declared.op.Op.TheVariants.{Plain, If, Else, EndIf, Do, EndDo, Label, JumpTo, Meas, EndMes, Select, Case, EndCas, DftCas, EndSel, EndFil}
use Rattle.vcm_code.specs.declared.code.Code.{Code}
use Rattle.vcm_code.specs.Code.{Op, CodeStatement}
use Rattle.vcm_code.specs.CodeTable.{CodeState, code_state, pair, target_for, or_halt, turn, do_op, fetched, code_step, start}
use Rattle.vcm_steps.specs.Passages.{Passage, passage_at, passage_from, passages, setup_with, state_after}

abbrev Has : ℕ → World → Type 0
Has n w = length w.variables ≡ n

-- an outcome has so many
abbrev HasIn : ℕ → Outcome World → Type 0
HasIn n (Gives w) = Has n w
HasIn n (Stops why) = Unit {0}

record Fine (n : ℕ) (o : Outcome World) : Type 0 where
  fine : HasIn n o

module _ (n : ℕ) where
  fine_after : {A : Type 0} (o : Outcome A) (f : A → Outcome World) → ((x : A) → Fine n (f x)) → Fine n (o >>= f)
  fine_after (Gives x) f k = k x
  fine_after (Stops why) f k = record { fine = tt }

  gives : {w : World} → Has n w → Fine n (Gives w)
  gives h = record { fine = h }

  variable_fine : (w : World) (v : ℕ) (x : ℤ) → Has n w → Has n (with_variable w v x)
  unfolding with_variable
  variable_fine w v x h = length-set w.variables v x ∙ h

  go_fine : (setup : Setup) (w : World) (target : Point) → Has n w → Fine n (go setup w target)
  go_fine setup w target h = fine_after _ _ (λ ok. gives h)

  line_fine : (w : World) (line : List ℕ) → Has n w → Fine n (with_line w line)
  line_fine w line h = fine_after _ _ (λ ok. gives h)

  carried_out_fine : (setup : Setup) (w : World) (s : Simple ℤ) → Has n w → Fine n (carried_out setup w s)
  unfolding carried_out
  carried_out_fine setup w (Goto x y z) h = fine_after (machine_point w x y z) _ (λ p. go_fine setup w p h)
  carried_out_fine setup w GoHome h = go_fine setup w setup.part.bounds.home h
  carried_out_fine setup w (Assign v x) h = gives (variable_fine w v x h)
  carried_out_fine setup w (Feat i x y z d) h = gives h
  carried_out_fine setup w (PtMeas i x y z given) h =
      fine_after (measured_direction w i given) _ (λ d. fine_after (machine_point w x y z) _ (λ nominal.
      fine_after (touch setup.part w.settings (coordinate w.position) (coordinate nominal) (direction w.frame.turn d)) _ (λ touched.
      fine_after (point_at (to_part w.frame (coordinate touched.at))) _ (λ at. gives h))))
  carried_out_fine setup w (SnSet which z) h = fine_after _ _ (λ ok. gives h)
  carried_out_fine setup w (Trans i x y z) h = fine_after (machine_point w x y z) _ (λ origin. gives h)
  carried_out_fine setup w (Rotate i axis k) h = gives h
  carried_out_fine setup w (Recall i) h = fine_after _ _ (λ f. gives h)
  carried_out_fine setup w (Obtain v source i word) h = fine_after (feature_in w source i) _ (λ f. gives (variable_fine w v _ h))
  carried_out_fine setup w (Output source i) h = fine_after (feature_in w source i) _ (λ f. line_fine w _ h)
  carried_out_fine setup w (Text bytes) h = line_fine w bytes h

  effect_fine : {E : Type 0} (value : List ℤ → E → Result ℤ Fault) (setup : Setup) (w : World) (s : Simple E) → Has n w → Fine n (effect value setup w s)
  unfolding effect
  effect_fine value setup w s h = fine_after _ _ (λ x. carried_out_fine setup w x h)

  next_index_fine : (w : World) (v : ℕ) (increment : ℤ) → Has n w → Fine n (with_next_index w v increment)
  unfolding with_next_index
  next_index_fine w v increment h = fine_after _ _ (λ z. gives (variable_fine w v z h))

  -- a state has so many
  record Holds (m : CodeState) : Type 0 where
    holds : Has n m.world

  on : {m : CodeState} → Has n m.world → Holds m
  on h = record { holds = h }

  after_value : {A : Type 0} (o : Outcome A) (w : World) (number line : ℕ) (ps : List Pair) (go : A → CodeState) → Has n w → ((x : A) → Holds (go x)) → Holds (or_halt o w number line ps go)
  after_value (Gives x) w number line ps go h f = f x
  after_value (Stops why) w number line ps go h f = on h

  after_effect : (o : Outcome World) (w : World) (number line : ℕ) (ps : List Pair) (go : World → CodeState) → Has n w → Fine n o → ((w' : World) → Has n w' → Holds (go w'))
      → Holds (or_halt o w number line ps go)
  after_effect (Gives w') w number line ps go h k f = f w' k.fine
  after_effect (Stops why) w number line ps go h k f = on h

  after_choice : (c : Bool) (a b : CodeState) → Holds a → Holds b → Holds (if_true c a b)
  after_choice true a b f g = f
  after_choice false a b f g = g

  turn_holds : (o : Option Pair) (w : World) (number line v target : ℕ) (ps : List Pair) → Has n w → Holds (turn o w number line v target ps)
  turn_holds None w number line v target ps h = on h
  turn_holds (Some p) w number line v target ps h =
      after_choice (is_zero p.increment) (code_state (stopped w ZeroStep number line) number ps)
      (or_halt (with_next_index w v p.increment) w number line ps (λ w'. if_true (is_past w' v p.limit p.increment) (code_state w' (number + 1) ps) (code_state w' target ps))) (on h)
      (after_effect (with_next_index w v p.increment) w number line ps (λ w'. if_true (is_past w' v p.limit p.increment) (code_state w' (number + 1) ps) (code_state w' target ps)) h
      (next_index_fine w v p.increment h) (λ w' k. after_choice (is_past w' v p.limit p.increment) (code_state w' (number + 1) ps) (code_state w' target ps) (on k) (on k)))

  -- a DO with these three values
  abbrev begun : (w : World) (number line v p target : ℕ) (ps : List Pair) (a b c : ℤ) → CodeState
  begun w number line v p target ps a b c =
      if_true (is_zero c) (code_state (stopped w ZeroStep number line) number ps)
      (if_true (is_past (with_variable w v a) v b c) (code_state (with_variable w v a) target (slice_set ps p (pair b c)))
      (code_state (with_variable w v a) (number + 1) (slice_set ps p (pair b c))))

  begun_holds : (w : World) (number line v p target : ℕ) (ps : List Pair) (a b c : ℤ) → Has n w → Holds (begun w number line v p target ps a b c)
  begun_holds w number line v p target ps a b c h =
      let there = code_state (with_variable w v a) target (slice_set ps p (pair b c)) in
      let here = code_state (with_variable w v a) (number + 1) (slice_set ps p (pair b c)) in
      after_choice (is_zero c) (code_state (stopped w ZeroStep number line) number ps) (if_true (is_past (with_variable w v a) v b c) there here) (on h)
      (after_choice (is_past (with_variable w v a) v b c) there here (on (variable_fine w v a h)) (on (variable_fine w v a h)))

  op_holds : (setup : Setup) (o : Op) (line : ℕ) (w : World) (number : ℕ) (ps : List Pair) → Has n w → Holds (do_op setup o line w number ps)
  op_holds setup (Plain what) line w number ps h =
      after_effect (effect items_value setup w what) w number line ps (λ w'. code_state w' (number + 1) ps) h (effect_fine items_value setup w what h) (λ w' k. on k)
  op_holds setup (If test target) line w number ps h =
      after_value (test_in items_value w test) w number line ps (λ t. if_true t (code_state w (number + 1) ps) (code_state w target ps)) h
      (λ t. after_choice t (code_state w (number + 1) ps) (code_state w target ps) (on h) (on h))
  op_holds setup (Else target) line w number ps h = on h
  op_holds setup EndIf line w number ps h = on h
  op_holds setup (Do v p initial limit increment target) line w number ps h =
      after_value (value_in items_value w initial) w number line ps
      (λ a. or_halt (value_in items_value w limit) w number line ps (λ b. or_halt (value_in items_value w increment) w number line ps (λ c. begun w number line v p target ps a b c))) h (λ a.
      after_value (value_in items_value w limit) w number line ps (λ b. or_halt (value_in items_value w increment) w number line ps (λ c. begun w number line v p target ps a b c)) h (λ b.
      after_value (value_in items_value w increment) w number line ps (λ c. begun w number line v p target ps a b c) h (λ c. begun_holds w number line v p target ps a b c h)))
  op_holds setup (EndDo v p target) line w number ps h = turn_holds (slice_get ps p) w number line v target ps h
  op_holds setup Label line w number ps h = on h
  op_holds setup (JumpTo target) line w number ps h = on h
  op_holds setup (Meas feature) line w number ps h = on h
  op_holds setup EndMes line w number ps h = on h
  op_holds setup (Select value branches target) line w number ps h = after_value (value_in items_value w value) w number line ps (λ z. code_state w (target_for z branches target) ps) h (λ z. on h)
  op_holds setup Case line w number ps h = on h
  op_holds setup (EndCas target) line w number ps h = on h
  op_holds setup DftCas line w number ps h = on h
  op_holds setup EndSel line w number ps h = on h
  op_holds setup EndFil line w number ps h = on h

  fetched_holds : (setup : Setup) (o : Option CodeStatement) (w : World) (number : ℕ) (ps : List Pair) → Has n w → Holds (fetched setup o w number ps)
  fetched_holds setup None w number ps h = on h
  fetched_holds setup (Some s) w number ps h = op_holds setup s.op s.line w number ps h

  unless_holds : (o : Option StopPlace) (a b : CodeState) → Holds a → Holds b → Holds (unless_stopped o a b)
  unless_holds None a b f g = g
  unless_holds (Some s) a b f g = f

  step_holds : (setup : Setup) (code : List CodeStatement) (m : CodeState) → Holds m → Holds (code_step setup code m)
  step_holds setup code m h = unless_holds m.world.stop _ _ h (fetched_holds setup (slice_get code m.next) m.world m.next m.pairs h.holds)

  abbrev AllHave : List Passage → Type 0
  AllHave ps = AllByRecursion (λ (p : Passage). length p.after.variables ≡ n) ps

  all_more : (ps qs : List Passage) → AllHave ps → AllHave qs → AllHave (ps ++ qs)
  all_more [] qs a b = b
  all_more (p ∷ ps) qs a b = (a.0, all_more ps qs a.1 b)

  at_holds : (count : ℕ) (m after : CodeState) (o : Option CodeStatement) → Holds after → AllHave (passage_at count m after o)
  at_holds count m after None h = tt
  at_holds count m after (Some s) h = (h.holds, tt)

  from_holds : (o : Option StopPlace) (ps : List Passage) → AllHave ps → AllHave (unless_stopped o [] ps)
  from_holds None ps h = h
  from_holds (Some s) ps h = tt

module _ (part : Workpiece) (c : Code) where
  abbrev variables : ℕ
  variables = length c.tables.variables

  many_first : (k : ℕ) → length (replicate k (pos 0)) ≡ k
  many_first zero = refl
  many_first (suc k) = ap suc (many_first k)

  state_holds : (k : ℕ) → Holds variables (state_after part c k)
  state_holds zero = on variables (many_first variables)
  state_holds (suc k) =
      let next : state_after part c (suc k) ≡ code_step (setup_with part c) c.statements (state_after part c k) =
      ap (state_after part c) (let e : suc k ≡ k + 1 = omega arith in e) ∙ add_steps (code_step (setup_with part c) c.statements) k 1 (start (setup_with part c)) in
      let there = step_holds variables (setup_with part c) c.statements (state_after part c k) (state_holds k) in
      on variables (ap (λ (m : CodeState). length m.world.variables) next ∙ there.holds)

  pub as_many_along : (k : ℕ) → AllByRecursion (λ (p : Passage). length p.after.variables ≡ variables) (passages part c k)
  as_many_along zero = tt
  as_many_along (suc k) =
      let m = state_after part c k in
      all_more variables (passages part c k) (passage_from part c (suc k) m) (as_many_along k)
      (from_holds variables m.world.stop _ (at_holds variables (suc k) m (code_step (setup_with part c) c.statements m) (slice_get c.statements m.next)
      (step_holds variables (setup_with part c) c.statements m (state_holds k))))

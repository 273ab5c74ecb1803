-- Behind a statement the centre of the tip is where it was, or within the limits.
use Rattle.std.proofs.Common.{◌≡◌, ℕ, ◌+◌, ℤ, Bool, true, false, List, slice_get, Option, Some, None, refl, inl, inr}
use Rattle.std.specs.Prelude.{◌⊎◌, ◌&&◌, slice_set}
use Rattle.vcm_num.specs.declared.axis.Axis.{Axis}
use Rattle.vcm_num.specs.declared.point.Point.{Point}
use Rattle.vcm_num.specs.Point.{coordinate}
use Rattle.vcm_spec.specs.declared.feature.Touch.{Touch}
use Rattle.vcm_spec.specs.declared.stop.Stop.TheVariants.{Overflow, Travel, Missed, BadSetting, ZeroStep}
use Rattle.vcm_spec.specs.declared.words.MovePhase.TheVariants.{Move, Approach, Search, Retract}
use Rattle.vcm_spec.specs.declared.workpiece.Hit.{Hit}
use Rattle.vcm_spec.specs.Setup.{Setup}
use Rattle.vcm_spec.specs.Simple.{Simple, evaluated}
use Rattle.vcm_spec.specs.declared.simple.Simple.TheVariants.{Goto, GoHome, Assign, Feat, PtMeas, SnSet, Trans, Rotate, Recall, Obtain, Output, Text}
use Rattle.vcm_spec.specs.Touch.{centre_of, approach_of, end_of, down_of, back_of, touched_of}
use Rattle.vcm_spec.specs.FirstContact.{contact, later_contact}
use Rattle.vcm_spec.specs.FirstTouch.{free_of, first_inside, touch}
use Rattle.vcm_spec.specs.Frame.{direction, to_part}
use Rattle.vcm_spec.specs.Outcome.{Outcome, Gives, Stops, ◌>>=◌, demand, found, fits_place, point_at, point_of}
use Rattle.vcm_spec.specs.Value.{items_value}
use Rattle.vcm_spec.specs.Workpiece.{Workpiece, is_within}
use Rattle.vcm_spec.specs.World.{World, with_variable, stopped}
use Rattle.vcm_spec.specs.Effect.{effect, carried_out, go, is_allowed, measured_direction, machine_point, feature_in, at_index, value_in}
use Rattle.vcm_spec.specs.Control.{test_in, with_next_index, is_zero, is_past}
use Rattle.vcm_spec.specs.Table.{if_true}
use Rattle.vcm_code.specs.declared.pair.Pair.{Pair}
use Rattle.vcm_code.specs.Code.{Op}
use Rattle.vcm_code.specs.declared.op.Op.TheVariants.{Plain, If, Else, EndIf, Do, EndDo, Label, JumpTo, Meas, EndMes, Select, Case, EndCas, DftCas, EndSel, EndFil}
use Rattle.vcm_code.specs.CodeTable.{pair, CodeState, code_state, or_halt, turn, target_for, do_op}

-- the same place, or one within the limits
abbrev pub StaysOrGoes : Workpiece → Point → Point → Type 0
StaysOrGoes part old new = (new ≡ old) ⊎ (is_within part.bounds (coordinate new) ≡ true)

-- ---- simple statements

abbrev PlacedIn : Workpiece → Point → Outcome World → Type 0
PlacedIn part old (Gives w) = StaysOrGoes part old w.position
PlacedIn part old (Stops why) = Unit {0}

record Placed (part : Workpiece) (old : Point) (o : Outcome World) : Type 0 where
  placed : PlacedIn part old o

module _ (part : Workpiece) (w : World) where
  placed_after : {A : Type 0} (o : Outcome A) (f : A → Outcome World) → ((x : A) → Placed part w.position (f x)) → Placed part w.position (o >>= f)
  placed_after (Gives x) f k = k x
  placed_after (Stops why) f k = record { placed = tt }

  stays : (new : World) → new.position ≡ w.position → Placed part w.position (Gives new)
  stays new e = record { placed = inl e }

  moved_by : (target : Point) (b : Bool) (hit : Option Hit) → is_within part.bounds (coordinate target) ≡ b
      → Placed part w.position ((demand b (Travel Move) >>= (λ _. free_of Move hit)) >>= (λ u. Gives (record w { position = target })))
  moved_by target true None e = record { placed = inr e }
  moved_by target true (Some hit) e = record { placed = tt }
  moved_by target false hit e = record { placed = tt }

  abbrev chain : Bool → Bool → Option Hit → Bool → Option ℕ → (ℕ → Bool) → (ℕ → Option Hit) → (ℕ → Touch) → Outcome Touch
  chain fits approach hit end t back later made = do
    _ ← demand fits Overflow
    _ ← (demand approach (Travel Approach) >>= (λ _. free_of Approach hit))
    _ ← demand end (Travel Search)
    t ← found t Missed
    _ ← demand (back t) (Travel Retract)
    _ ← free_of Retract (later t)
    Gives (made t)

  module _ (back : ℕ → Bool) (later : ℕ → Option Hit) (made : ℕ → Touch) (next : Touch → Outcome World)
      (h : (t : ℕ) → back t ≡ true → Placed part w.position (next (made t))) where
    back_by : (t : ℕ) (b : Bool) (hit : Option Hit) → back t ≡ b
        → Placed part w.position ((demand b (Travel Retract) >>= (λ _. free_of Retract hit >>= (λ _. Gives (made t)))) >>= next)
    back_by t true None e = h t e
    back_by t true (Some hit) e = record { placed = tt }
    back_by t false hit e = record { placed = tt }

    touched_by : (f a : Bool) (hit : Option Hit) (e : Bool) (t : Option ℕ) → Placed part w.position (chain f a hit e t back later made >>= next)
    touched_by false a hit e t = record { placed = tt }
    touched_by true false hit e t = record { placed = tt }
    touched_by true true (Some hit) e t = record { placed = tt }
    touched_by true true None false t = record { placed = tt }
    touched_by true true None true None = record { placed = tt }
    touched_by true true None true (Some t) = back_by t (back t) (later t) refl

  touch_placed : (nominal : ℕ → ℤ) (d : Axis) (next : Touch → Outcome World)
      → ((t : Touch) → is_within part.bounds (coordinate t.retract) ≡ true → Placed part w.position (next t))
      → Placed part w.position (touch part w.settings (coordinate w.position) nominal d >>= next)
  unfolding touch
  touch_placed nominal d next k =
      let s = w.settings in
      let centre = centre_of part nominal d in
      touched_by (λ t. is_within part.bounds (back_of s centre d t)) (λ t. later_contact part (down_of s centre d t) (back_of s centre d t))
      (λ t. record { at = point_of (touched_of part s centre d t); retract = point_of (back_of s centre d t) }) next
      (λ t e. k (record { at = point_of (touched_of part s centre d t); retract = point_of (back_of s centre d t) }) e)
      (fits_place (approach_of s centre d) && fits_place (end_of s centre d)) (is_within part.bounds (approach_of s centre d))
      (contact part (coordinate w.position) (approach_of s centre d)) (is_within part.bounds (end_of s centre d)) (first_inside part s centre d)

go_placed : (setup : Setup) (w : World) (target : Point) → Placed setup.part w.position (go setup w target)
go_placed setup w target =
    moved_by setup.part w target (is_within setup.part.bounds (coordinate target)) (contact setup.part (coordinate w.position) (coordinate target)) refl

variable_placed : (part : Workpiece) (w : World) (v : ℕ) (x : ℤ) → Placed part w.position (Gives (with_variable w v x))
unfolding with_variable
variable_placed part w v x = record { placed = inl refl }

carried_out_placed : (setup : Setup) (w : World) (s : Simple ℤ) → Placed setup.part w.position (carried_out setup w s)
unfolding carried_out
carried_out_placed setup w (Goto x y z) = placed_after setup.part w (machine_point w x y z) _ (λ p. go_placed setup w p)
carried_out_placed setup w GoHome = go_placed setup w setup.part.bounds.home
carried_out_placed setup w (Assign v x) = variable_placed setup.part w v x
carried_out_placed setup w (Feat i x y z d) = stays setup.part w _ refl
carried_out_placed setup w (PtMeas i x y z given) =
    placed_after setup.part w (measured_direction w i given) _ (λ d. placed_after setup.part w (machine_point w x y z) _ (λ nominal.
    touch_placed setup.part w (coordinate nominal) (direction w.frame.turn d) _ (λ t e.
    placed_after setup.part w (point_at (to_part w.frame (coordinate t.at))) _ (λ at. record { placed = inr e }))))
carried_out_placed setup w (SnSet which z) = placed_after setup.part w (demand (is_allowed which z) BadSetting) _ (λ u. stays setup.part w _ refl)
carried_out_placed setup w (Trans i x y z) = placed_after setup.part w (machine_point w x y z) _ (λ o. stays setup.part w _ refl)
carried_out_placed setup w (Rotate i axis n) = stays setup.part w _ refl
carried_out_placed setup w (Recall i) = placed_after setup.part w (found (at_index w.saved i) _) _ (λ f. stays setup.part w _ refl)
carried_out_placed setup w (Obtain v source i word) = placed_after setup.part w (feature_in w source i) _ (λ f. variable_placed setup.part w v _)
carried_out_placed setup w (Output source i) = placed_after setup.part w (feature_in w source i) _ (λ f. placed_after setup.part w _ _ (λ u. stays setup.part w _ refl))
carried_out_placed setup w (Text bytes) = placed_after setup.part w _ _ (λ u. stays setup.part w _ refl)

-- ---- all statements

-- the place of a state
record Placed_at (part : Workpiece) (old : Point) (m : CodeState) : Type 0 where
  there : StaysOrGoes part old m.world.position

module _ (part : Workpiece) (w : World) (n line : ℕ) (ps : List Pair) where
  abbrev At : CodeState → Type 0
  At = Placed_at part w.position

  here : (new : World) (k : ℕ) (qs : List Pair) → new.position ≡ w.position → At (code_state new k qs)
  here new k qs e = record { there = inl e }

  halts_at : {A : Type 0} (o : Outcome A) (go : A → CodeState) → ((x : A) → At (go x)) → At (or_halt o w n line ps go)
  halts_at (Gives x) go h = h x
  halts_at (Stops why) go h = record { there = inl refl }

  picks_at : (t : Bool) (a b : CodeState) → At a → At b → At (if_true t a b)
  picks_at true a b h k = h
  picks_at false a b h k = k

  -- with a variable changed it is where it was
  variable_at : (v : ℕ) (x : ℤ) (k : ℕ) (qs : List Pair) → At (code_state (with_variable w v x) k qs)
  unfolding with_variable
  variable_at v x k qs = record { there = inl refl }

  indexed : (v target : ℕ) (p : Pair) (o : Outcome ℤ)
      → At (or_halt (o >>= (λ z. Gives (with_variable w v z))) w n line ps
      (λ w'. if_true (is_past w' v p.limit p.increment) (code_state w' (n + 1) ps) (code_state w' target ps)))
  indexed v target p (Stops why) = record { there = inl refl }
  indexed v target p (Gives z) =
      picks_at (is_past (with_variable w v z) v p.limit p.increment) (code_state (with_variable w v z) (n + 1) ps) (code_state (with_variable w v z) target ps)
      (variable_at v z (n + 1) ps) (variable_at v z target ps)

  turned_at : (o : Option Pair) (v target : ℕ) → At (turn o w n line v target ps)
  unfolding with_next_index
  turned_at None v target = record { there = inl refl }
  turned_at (Some p) v target =
      picks_at (is_zero p.increment) (code_state (stopped w ZeroStep n line) n ps)
      (or_halt (with_next_index w v p.increment) w n line ps
      (λ w'. if_true (is_past w' v p.limit p.increment) (code_state w' (n + 1) ps) (code_state w' target ps)))
      (record { there = inl refl })
      (indexed v target p _)

  begun_at : (v p target : ℕ) (a b c : Outcome ℤ) → At (or_halt a w n line ps (λ x.
      or_halt b w n line ps (λ y.
      or_halt c w n line ps (λ z.
      if_true (is_zero z) (code_state (stopped w ZeroStep n line) n ps)
      (if_true (is_past (with_variable w v x) v y z) (code_state (with_variable w v x) target (slice_set ps p (pair y z)))
      (code_state (with_variable w v x) (n + 1) (slice_set ps p (pair y z))))))))
  begun_at v p target (Stops why) b c = record { there = inl refl }
  begun_at v p target (Gives x) (Stops why) c = record { there = inl refl }
  begun_at v p target (Gives x) (Gives y) (Stops why) = record { there = inl refl }
  begun_at v p target (Gives x) (Gives y) (Gives z) =
      picks_at (is_zero z) (code_state (stopped w ZeroStep n line) n ps)
      (if_true (is_past (with_variable w v x) v y z) (code_state (with_variable w v x) target (slice_set ps p (pair y z)))
      (code_state (with_variable w v x) (n + 1) (slice_set ps p (pair y z))))
      (record { there = inl refl })
      (picks_at (is_past (with_variable w v x) v y z) (code_state (with_variable w v x) target (slice_set ps p (pair y z)))
      (code_state (with_variable w v x) (n + 1) (slice_set ps p (pair y z))) (variable_at v x target (slice_set ps p (pair y z))) (variable_at v x (n + 1) (slice_set ps p (pair y z))))

simple_at : (setup : Setup) (w : World) (n line : ℕ) (ps : List Pair) (o : Outcome World) → Placed setup.part w.position o
    → Placed_at setup.part w.position (or_halt o w n line ps (λ w'. code_state w' (n + 1) ps))
simple_at setup w n line ps (Gives x) h = record { there = h.placed }
simple_at setup w n line ps (Stops why) h = record { there = inl refl }

op_at : (setup : Setup) (w : World) (n line : ℕ) (ps : List Pair) (op : Op) → Placed_at setup.part w.position (do_op setup op line w n ps)
unfolding effect
op_at setup w n line ps (Plain what) =
    simple_at setup w n line ps _ (placed_after setup.part w (evaluated (value_in items_value w) what) _ (λ s. carried_out_placed setup w s))
op_at setup w n line ps (If test target) =
    halts_at setup.part w n line ps (test_in items_value w test) _ (λ t. picks_at setup.part w n line ps t (code_state w (n + 1) ps) (code_state w target ps)
    (here setup.part w n line ps w (n + 1) ps refl) (here setup.part w n line ps w target ps refl))
op_at setup w n line ps (Else target) = record { there = inl refl }
op_at setup w n line ps EndIf = record { there = inl refl }
op_at setup w n line ps (Do v p a b c exit) =
    begun_at setup.part w n line ps v p exit (value_in items_value w a) (value_in items_value w b) (value_in items_value w c)
op_at setup w n line ps (EndDo v p target) = turned_at setup.part w n line ps (slice_get ps p) v target
op_at setup w n line ps Label = record { there = inl refl }
op_at setup w n line ps (JumpTo target) = record { there = inl refl }
op_at setup w n line ps (Meas feature) = record { there = inl refl }
op_at setup w n line ps EndMes = record { there = inl refl }
op_at setup w n line ps (Select value branches target) =
    halts_at setup.part w n line ps (value_in items_value w value) _ (λ z. here setup.part w n line ps w (target_for z branches target) ps refl)
op_at setup w n line ps Case = record { there = inl refl }
op_at setup w n line ps (EndCas target) = record { there = inl refl }
op_at setup w n line ps DftCas = record { there = inl refl }
op_at setup w n line ps EndSel = record { there = inl refl }
op_at setup w n line ps EndFil = record { there = inl refl }

pub stays_or_goes : (setup : Setup) (w : World) (n line : ℕ) (ps : List Pair) (op : Op) → StaysOrGoes setup.part w.position (do_op setup op line w n ps).world.position
stays_or_goes setup w n line ps op = (op_at setup w n line ps op).there

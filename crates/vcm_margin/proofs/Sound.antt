-- What statements keep of a state: its frames are turns, and it has as many features. None stops as at the end of the program.
use Rattle.std.proofs.Common.{◌≡◌, ℕ, ℤ, Bool, true, false, ◌&&◌, Option, Some, None, List, [], ◌∷◌, Result, Ok, Err, refl, ◌∙◌}
use Rattle.std.specs.Prelude.{IsTrue, length, ◌++◌, nat_lt, unsigned_abs, slice_get, option_and_then}
use Rattle.std.proofs.lemmas.List.{length-set}
use Rattle.vcm_num.specs.declared.axis.Axis.{Axis}
use Rattle.vcm_num.specs.declared.number.Fault.{Fault}
use Rattle.vcm_num.specs.declared.number.Fault.TheVariants as faults
use Rattle.vcm_num.specs.declared.point.Point.{Point}
use Rattle.vcm_num.specs.Point.{point, coordinate}
use Rattle.vcm_spec.specs.declared.stop.Stop.{Stop}
use Rattle.vcm_spec.specs.declared.stop.Stop.TheVariants.{Ended, Overflow, Undefined, BadSetting, OutputFull, Travel, Missed}
use Rattle.vcm_spec.specs.declared.stop.Missing.TheVariants as missing
use Rattle.vcm_spec.specs.declared.words.MovePhase.{MovePhase}
use Rattle.vcm_spec.specs.declared.words.MovePhase.TheVariants.{Approach, Search, Retract, Move}
use Rattle.vcm_spec.specs.declared.words.Source.{Source}
use Rattle.vcm_spec.specs.declared.words.Source.TheVariants.{Nominal, Actual}
use Rattle.vcm_spec.specs.declared.workpiece.Hit.{Hit}
use Rattle.vcm_spec.specs.declared.feature.Touch.{Touch}
use Rattle.vcm_spec.specs.Frame.{Frame, is_turn, direction, to_machine, to_part, turned_frame}
use Rattle.vcm_spec.specs.Words.{axis_number, quarters_number}
use Rattle.vcm_spec.specs.Workpiece.{Workpiece, is_within}
use Rattle.vcm_spec.specs.FirstContact.{contact, later_contact}
use Rattle.vcm_spec.specs.Touch.{centre_of, approach_of, end_of, down_of, back_of, touched_of}
use Rattle.vcm_spec.specs.FirstTouch.{first_inside, free_of, free_move, touch_at, touch}
use Rattle.vcm_spec.specs.Setup.{Setup}
use Rattle.vcm_spec.specs.World.{Settings, World, with_variable}
use Rattle.vcm_spec.specs.Outcome.{Outcome, Gives, Stops, ◌>>=◌, demand, found, calculated, fits_place, point_of, point_at}
use Rattle.vcm_spec.specs.Simple.{Simple, evaluated, evaluated_three}
use Rattle.vcm_spec.specs.declared.simple.Simple.TheVariants.{Goto, GoHome, Assign, Feat, PtMeas, SnSet, Trans, Rotate, Recall, Obtain, Output, Text}
use Rattle.vcm_spec.specs.Effect.{effect, carried_out, value_in, go, with_frame, with_line, measured_direction, machine_point, feature_in, at_index, is_allowed, with_setting}
use Rattle.vcm_spec.specs.Laws.{FramesAreTurns}
use Rattle.vcm_spec.proofs.Turns.{quarters_turn}
use Rattle.vcm_spec.proofs.FramesStay.{same_frames, with_frame_keeps as frame_keeps}

-- a state of so many features, whose frames are turns
pub record IsSound (n : ℕ) (w : World) : Type 0 where
  pub turns : FramesAreTurns w
  pub features : length w.actual ≡ n

-- ---- stops that are not the program's end

abbrev pub GoesOn : {A : Type 0} → Outcome A → Type 0
GoesOn (Gives x) = Unit {0}
GoesOn (Stops why) = why ≡ Ended → ⊥

pub record Never {A : Type 0} (o : Outcome A) : Type 0 where
  pub never : GoesOn o

given : {A : Type 0} {x : A} → Never (Gives x)
given = record { never = tt }

never_after : {A B : Type 0} (o : Outcome A) (f : A → Outcome B) → Never o → ((x : A) → Never (f x)) → Never (o >>= f)
never_after (Gives x) f h k = k x
never_after (Stops why) f h k = record { never = h.never }

demanded : (b : Bool) (why : Stop) → (why ≡ Ended → ⊥) → Never (demand b why)
demanded true why h = record { never = tt }
demanded false why h = record { never = h }

found_never : {A : Type 0} (o : Option A) (why : Stop) → (why ≡ Ended → ⊥) → Never (found o why)
found_never (Some x) why h = record { never = tt }
found_never None why h = record { never = h }

pub calculated_never : {A : Type 0} (r : Result A Fault) → Never (calculated r)
calculated_never (Ok x) = record { never = tt }
calculated_never (Err faults.Overflow) = record { never = λ e. cc }
calculated_never (Err faults.DivZero) = record { never = λ e. cc }

free_never : (phase : MovePhase) (o : Option Hit) → Never (free_of phase o)
free_never phase None = record { never = tt }
free_never phase (Some hit) = record { never = λ e. cc }

move_never : (phase : MovePhase) (part : Workpiece) (x y : ℕ → ℤ) → Never (free_move phase part x y)
move_never phase part x y =
    never_after (demand (is_within part.bounds y) (Travel phase)) (λ _. free_of phase (contact part x y)) (demanded (is_within part.bounds y) (Travel phase) (λ e. cc))
    (λ ok. free_never phase (contact part x y))

module _ (part : Workpiece) (s : Settings) (from centre : ℕ → ℤ) (d : Axis) where
  abbrev gone_back : ℕ → Outcome Touch
  gone_back t = Gives (record { at = point_of (touched_of part s centre d t); retract = point_of (back_of s centre d t) })

  abbrev go_back : ℕ → Outcome Touch
  go_back t = demand (is_within part.bounds (back_of s centre d t)) (Travel Retract) >>= (λ _.
      free_of Retract (later_contact part (down_of s centre d t) (back_of s centre d t)) >>= (λ _. gone_back t))

  abbrev go_down : Outcome Touch
  go_down = demand (is_within part.bounds (end_of s centre d)) (Travel Search) >>= (λ _. found (first_inside part s centre d) Missed >>= go_back)

  back_never : (t : ℕ) → Never (go_back t)
  back_never t =
      never_after (demand (is_within part.bounds (back_of s centre d t)) (Travel Retract)) _ (demanded (is_within part.bounds (back_of s centre d t)) (Travel Retract) (λ e. cc)) (λ a.
      never_after (free_of Retract (later_contact part (down_of s centre d t) (back_of s centre d t))) (λ _. gone_back t)
      (free_never Retract (later_contact part (down_of s centre d t) (back_of s centre d t)))
      (λ b. given))

  down_never : Never go_down
  down_never =
      never_after (demand (is_within part.bounds (end_of s centre d)) (Travel Search)) (λ _. found (first_inside part s centre d) Missed >>= go_back)
      (demanded (is_within part.bounds (end_of s centre d)) (Travel Search) (λ e. cc)) (λ a.
      never_after (found (first_inside part s centre d) Missed) go_back (found_never (first_inside part s centre d) Missed (λ e. cc)) back_never)

  at_never : Never (touch_at part s from centre d)
  at_never =
      never_after (demand (fits_place (approach_of s centre d) && fits_place (end_of s centre d)) Overflow) (λ _. free_move Approach part from (approach_of s centre d) >>= (λ _. go_down))
      (demanded (fits_place (approach_of s centre d) && fits_place (end_of s centre d)) Overflow (λ e. cc)) (λ a.
      never_after (free_move Approach part from (approach_of s centre d)) (λ _. go_down) (move_never Approach part from (approach_of s centre d)) (λ b. down_never))

touch_never : (part : Workpiece) (s : Settings) (from nominal : ℕ → ℤ) (d : Axis) → Never (touch part s from nominal d)
unfolding touch
touch_never part s from nominal d = at_never part s from (centre_of part nominal d) d

point_never : (x : ℕ → ℤ) → Never (point_at x)
point_never x = never_after (demand (fits_place x) Overflow) (λ _. Gives (point_of x)) (demanded (fits_place x) Overflow (λ e. cc)) (λ ok. given)

feature_never : (w : World) (source : Source) (i : ℕ) → Never (feature_in w source i)
feature_never w Nominal i = found_never (at_index w.nominal i) (Undefined (missing.Nominal i)) (λ e. cc)
feature_never w Actual i = found_never (at_index w.actual i) (Undefined (missing.Actual i)) (λ e. cc)

direction_never : (w : World) (i : ℕ) (d : Option Axis) → Never (measured_direction w i d)
direction_never w i (Some d) = given
direction_never w i None = never_after (feature_in w Nominal i) _ (feature_never w Nominal i) (λ f. given)

-- ---- what comes out is sound

abbrev SoundIn : ℕ → Outcome World → Type 0
SoundIn n (Gives w) = IsSound n w
SoundIn n (Stops why) = why ≡ Ended → ⊥

pub record Fine (n : ℕ) (o : Outcome World) : Type 0 where
  pub fine : SoundIn n o

fine_after : {A : Type 0} (n : ℕ) (o : Outcome A) (f : A → Outcome World) → Never o → ((x : A) → Fine n (f x)) → Fine n (o >>= f)
fine_after n (Gives x) f h k = k x
fine_after n (Stops why) f h k = record { fine = h.never }

gives : {n : ℕ} {w : World} → IsSound n w → Fine n (Gives w)
gives t = record { fine = t }

-- a state with the frames and the number of features of one that is sound
same : {n : ℕ} {w w' : World} → w'.frame ≡ w.frame → w'.saved ≡ w.saved → length w'.actual ≡ length w.actual → IsSound n w → IsSound n w'
same e f l t = record { turns = same_frames e f t.turns; features = l ∙ t.features }

with_frame_keeps : (n : ℕ) (w : World) (i : ℕ) (f : Frame) → IsTrue (is_turn f.turn) → IsSound n w → IsSound n (with_frame w i f)
with_frame_keeps n w i f ok t = record { turns = frame_keeps w i f ok t.turns; features = t.features }

pub variable_sound : (n : ℕ) (w : World) (v : ℕ) (x : ℤ) → IsSound n w → IsSound n (with_variable w v x)
unfolding with_variable
variable_sound n w v x t = same refl refl refl t

go_fine : (n : ℕ) (setup : Setup) (w : World) (target : Point) → IsSound n w → Fine n (go setup w target)
go_fine n setup w target t =
    fine_after n (free_move Move setup.part (coordinate w.position) (coordinate target)) (λ _. Gives (record w { position = target }))
    (move_never Move setup.part (coordinate w.position) (coordinate target)) (λ ok. gives (same refl refl refl t))

line_fine : (n : ℕ) (w : World) (line : List ℕ) → IsSound n w → Fine n (with_line w line)
line_fine n w line t =
    fine_after n (demand (nat_lt (length w.lines) 100000) OutputFull) (λ _. Gives (record w { lines = w.lines ++ line ∷ [] }))
    (demanded (nat_lt (length w.lines) 100000) OutputFull (λ e. cc)) (λ ok. gives (same refl refl refl t))

-- the frame that RECALL finds is a saved one
recall_fine : (n : ℕ) (w : World) (why : Stop) (i : ℕ) → (why ≡ Ended → ⊥) → IsSound n w
    → Fine n (found (at_index w.saved i) why >>= (λ f. Gives (record w { frame = f })))
recall_fine n w why i never t = by (slice_get w.saved i) refl
  where
    by : (o : Option (Option Frame)) → slice_get w.saved i ≡ o → Fine n (found (option_and_then (λ x. x) o) why >>= (λ f. Gives (record w { frame = f })))
    by None e = record { fine = never }
    by (Some None) e = record { fine = never }
    by (Some (Some f)) e = gives (record { turns = record { current = t.turns.saved i f e; saved = t.turns.saved }; features = t.features })

pub carried_out_fine : (n : ℕ) (setup : Setup) (w : World) (s : Simple ℤ) → IsSound n w → Fine n (carried_out setup w s)
unfolding carried_out
carried_out_fine n setup w (Goto x y z) t = fine_after n (machine_point w x y z) _ (point_never (to_machine w.frame (coordinate (point x y z)))) (λ p. go_fine n setup w p t)
carried_out_fine n setup w GoHome t = go_fine n setup w setup.part.bounds.home t
carried_out_fine n setup w (Assign v x) t = gives (variable_sound n w v x t)
carried_out_fine n setup w (Feat i x y z d) t = gives (same refl refl refl t)
carried_out_fine n setup w (PtMeas i x y z given) t =
    fine_after n (measured_direction w i given) _ (direction_never w i given) (λ d. fine_after n (machine_point w x y z) _ (point_never (to_machine w.frame (coordinate (point x y z)))) (λ nominal.
    fine_after n (touch setup.part w.settings (coordinate w.position) (coordinate nominal) (direction w.frame.turn d)) _
    (touch_never setup.part w.settings (coordinate w.position) (coordinate nominal) (direction w.frame.turn d)) (λ touched.
    fine_after n (point_at (to_part w.frame (coordinate touched.at))) _ (point_never (to_part w.frame (coordinate touched.at))) (λ at. gives (same refl refl (length-set w.actual i _) t)))))
carried_out_fine n setup w (SnSet which z) t =
    fine_after n (demand (is_allowed which z) BadSetting) (λ _. Gives (record w { settings = with_setting w.settings which (unsigned_abs z) }))
    (demanded (is_allowed which z) BadSetting (λ e. cc)) (λ ok. gives (same refl refl refl t))
carried_out_fine n setup w (Trans i x y z) t =
    fine_after n (machine_point w x y z) _ (point_never (to_machine w.frame (coordinate (point x y z))))
    (λ origin. gives (with_frame_keeps n w i (record (w.frame) { origin = origin }) t.turns.current t))
carried_out_fine n setup w (Rotate i axis q) t =
    gives (with_frame_keeps n w i (turned_frame w.frame axis q) (quarters_turn w.frame.turn (axis_number axis) (quarters_number q) t.turns.current) t)
carried_out_fine n setup w (Recall i) t = recall_fine n w (Undefined (missing.Frame i)) i (λ e. cc) t
carried_out_fine n setup w (Obtain v source i word) t = fine_after n (feature_in w source i) _ (feature_never w source i) (λ f. gives (variable_sound n w v _ t))
carried_out_fine n setup w (Output source i) t = fine_after n (feature_in w source i) _ (feature_never w source i) (λ f. line_fine n w _ t)
carried_out_fine n setup w (Text bytes) t = line_fine n w bytes t

-- ---- expressions stop for faults alone

value_never : {E : Type 0} (value : List ℤ → E → Result ℤ Fault) (w : World) (e : E) → Never (value_in value w e)
unfolding value_in
value_never value w e = calculated_never (value w.variables e)

three_never : {E : Type 0} (value : E → Outcome ℤ) → ((e : E) → Never (value e)) → (x y z : E) (statement : ℤ → ℤ → ℤ → Simple ℤ) → Never (evaluated_three value x y z statement)
three_never value v x y z statement =
    never_after (value x) _ (v x) (λ a. never_after (value y) _ (v y) (λ b. never_after (value z) (λ c. Gives (statement a b c)) (v z) (λ c. given)))

evaluated_never : {E : Type 0} (value : E → Outcome ℤ) → ((e : E) → Never (value e)) → (s : Simple E) → Never (evaluated value s)
evaluated_never value v (Goto x y z) = three_never value v x y z _
evaluated_never value v GoHome = given
evaluated_never value v (Assign t e) = never_after (value e) (λ a. Gives (Assign t a)) (v e) (λ a. given)
evaluated_never value v (Feat i x y z d) = three_never value v x y z _
evaluated_never value v (PtMeas i x y z d) = three_never value v x y z _
evaluated_never value v (SnSet which e) = never_after (value e) (λ a. Gives (SnSet which a)) (v e) (λ a. given)
evaluated_never value v (Trans i x y z) = three_never value v x y z _
evaluated_never value v (Rotate i axis n) = given
evaluated_never value v (Recall i) = given
evaluated_never value v (Obtain t source i word) = given
evaluated_never value v (Output source i) = given
evaluated_never value v (Text bytes) = given

pub effect_fine : {E : Type 0} (value : List ℤ → E → Result ℤ Fault) (n : ℕ) (setup : Setup) (w : World) (s : Simple E) → IsSound n w → Fine n (effect value setup w s)
unfolding effect
effect_fine value n setup w s t =
    fine_after n (evaluated (value_in value w) s) (carried_out setup w) (evaluated_never (value_in value w) (value_never value w) s) (λ x. carried_out_fine n setup w x t)

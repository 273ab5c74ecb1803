-- Statements beside two workpieces: two states that are the same but for the place of the probe stay so, as long as what is measured is the same.
use Rattle.std.proofs.Common.{◌≡◌, ℕ, zero, suc, ℤ, Option, Some, None, List, [], ◌∷◌, Result, refl, sym, ap, subst}
use Rattle.std.specs.Prelude.{slice_get, slice_set, unwrap_or, length, ◌++◌, nat_lt}
use Rattle.vcm_num.specs.declared.axis.Axis.{Axis}
use Rattle.vcm_num.specs.declared.number.Fault.{Fault}
use Rattle.vcm_num.specs.declared.point.Point.{Point}
use Rattle.vcm_num.specs.Point.{coordinate}
use Rattle.vcm_spec.specs.declared.feature.Feature.{Feature}
use Rattle.vcm_spec.specs.declared.feature.Touch.{Touch}
use Rattle.vcm_spec.specs.declared.stop.Stop.TheVariants.{Undefined, BadSetting, OutputFull}
use Rattle.vcm_spec.specs.declared.stop.Missing.TheVariants as missing
use Rattle.vcm_spec.specs.declared.words.Source.TheVariants.{Nominal, Actual}
use Rattle.vcm_spec.specs.declared.words.MovePhase.TheVariants.{Move}
use Rattle.vcm_spec.specs.Frame.{direction, to_part}
use Rattle.vcm_spec.specs.Workpiece.{Workpiece}
use Rattle.vcm_spec.specs.FirstTouch.{free_move, touch}
use Rattle.vcm_spec.specs.Setup.{Tables, setup_of}
use Rattle.vcm_spec.specs.World.{World, with_variable}
use Rattle.vcm_spec.specs.Outcome.{Outcome, Gives, Stops, ◌>>=◌, demand, found, point_at}
use Rattle.vcm_spec.specs.Simple.{Simple, evaluated, evaluated_three}
use Rattle.vcm_spec.specs.declared.simple.Simple.{Simple as Kept}
use Rattle.vcm_spec.specs.declared.simple.Simple.TheVariants.{Goto, GoHome, Assign, Feat, PtMeas, SnSet, Trans, Rotate, Recall, Obtain, Output, Text}
use Rattle.vcm_spec.specs.Effect.{effect, carried_out, value_in, go, with_line, measured_direction, machine_point, feature_in, at_index, is_allowed}

-- the state with the probe at a place
abbrev pub standing : Point → World → World
standing p w = record w { position = p }

-- what comes out, with the probe at a place
abbrev pub also : Point → Outcome World → Outcome World
also p (Gives w) = Gives (standing p w)
also p (Stops why) = Stops why

-- the feature that a statement measures
abbrev pub measured_in : {E T : Type 0} → Kept E T → Option ℕ
measured_in (PtMeas i x y z d) = Some i
measured_in _ = None

-- the feature with this index, if it was measured
abbrev pub actual : World → ℕ → Option Feature
actual w i = unwrap_or (slice_get w.actual i) None

-- what was measured, if anything, is the same in both
abbrev pub MeasuredAlike : Option ℕ → World → World → Type 0
MeasuredAlike which u v = (i : ℕ) → which ≡ Some i → actual u i ≡ actual v i

-- ---- statements that don't move the probe

also_after : {A : Type 0} (p : Point) (o : Outcome A) (f g : A → Outcome World) → ((x : A) → g x ≡ also p (f x)) → (o >>= g) ≡ also p (o >>= f)
also_after p (Gives x) f g h = h x
also_after p (Stops why) f g h = refl

pub variable_also : (p : Point) (w : World) (v : ℕ) (x : ℤ) → with_variable (standing p w) v x ≡ standing p (with_variable w v x)
unfolding with_variable
variable_also p w v x = refl

line_also : (p : Point) (w : World) (line : List ℕ) → with_line (standing p w) line ≡ also p (with_line w line)
line_also p w line =
    also_after p (demand (nat_lt (length w.lines) 100000) OutputFull) (λ _. Gives (record w { lines = w.lines ++ line ∷ [] }))
    (λ _. Gives (record (standing p w) { lines = w.lines ++ line ∷ [] })) (λ ok. refl)

-- a statement doesn't move the probe
abbrev pub StaysThere : {E T : Type 0} → Kept E T → Type 0
StaysThere (Goto x y z) = ⊥
StaysThere GoHome = ⊥
StaysThere (PtMeas i x y z d) = ⊥
StaysThere _ = Unit {0}

pub resting : (one other : Workpiece) (tables : Tables) (p : Point) (w : World) (s : Simple ℤ) → StaysThere s
    → carried_out (setup_of other tables) (standing p w) s ≡ also p (carried_out (setup_of one tables) w s)
unfolding carried_out
resting one other tables p w (Goto x y z) h = absurd h
resting one other tables p w GoHome h = absurd h
resting one other tables p w (PtMeas i x y z d) h = absurd h
resting one other tables p w (Assign v x) h = ap Gives (variable_also p w v x)
resting one other tables p w (Feat i x y z d) h = refl
resting one other tables p w (SnSet which z) h = also_after p (demand (is_allowed which z) BadSetting) _ _ (λ ok. refl)
resting one other tables p w (Trans i x y z) h = also_after p (machine_point w x y z) _ _ (λ origin. refl)
resting one other tables p w (Rotate i axis n) h = refl
resting one other tables p w (Recall i) h = also_after p (found (at_index w.saved i) (Undefined (missing.Frame i))) _ _ (λ f. refl)
resting one other tables p w (Obtain v Nominal i word) h = also_after p (feature_in w Nominal i) _ _ (λ f. ap Gives (variable_also p w v _))
resting one other tables p w (Obtain v Actual i word) h = also_after p (feature_in w Actual i) _ _ (λ f. ap Gives (variable_also p w v _))
resting one other tables p w (Output Nominal i) h = also_after p (feature_in w Nominal i) _ _ (λ f. line_also p w _)
resting one other tables p w (Output Actual i) h = also_after p (feature_in w Actual i) _ _ (λ f. line_also p w _)
resting one other tables p w (Text bytes) h = line_also p w bytes

-- ---- two states

-- where both go on and what was measured is the same, the second is the first but for the place
abbrev pub SameIn : Option ℕ → Outcome World → Outcome World → Type 0
SameIn which (Gives u) (Gives v) = MeasuredAlike which u v → v ≡ standing v.position u
SameIn which _ _ = Unit {0}

pub record IsSame (which : Option ℕ) (o q : Outcome World) : Type 0 where
  pub same : SameIn which o q

also_same : (which : Option ℕ) (p : Point) (o : Outcome World) → IsSame which o (also p o)
also_same which p (Gives w) = record { same = λ m. refl }
also_same which p (Stops why) = record { same = tt }

is_also : (which : Option ℕ) (p : Point) (o q : Outcome World) → q ≡ also p o → IsSame which o q
is_also which p o q e = subst (IsSame which o) (sym e) (also_same which p o)

-- one thing before them that is the same
after_one : {A : Type 0} (which : Option ℕ) (o : Outcome A) (f g : A → Outcome World) → ((x : A) → IsSame which (f x) (g x)) → IsSame which (o >>= f) (o >>= g)
after_one which (Gives x) f g h = h x
after_one which (Stops why) f g h = record { same = tt }

-- one thing before each that may differ
after_two : {A : Type 0} (which : Option ℕ) (o q : Outcome A) (f g : A → Outcome World) → ((x y : A) → IsSame which (f x) (g y)) → IsSame which (o >>= f) (q >>= g)
after_two which (Gives x) (Gives y) f g h = h x y
after_two which (Gives x) (Stops why) f g h = by (f x)
  where
    by : (o : Outcome World) → IsSame which o (Stops why)
    by (Gives w) = record { same = tt }
    by (Stops other) = record { same = tt }
after_two which (Stops why) q f g h = record { same = tt }

-- a list with one element changed is the same where that element is
set_same : {A : Type 0} (xs : List (Option A)) (i : ℕ) (y z : Option A)
    → unwrap_or (slice_get (slice_set xs i y) i) None ≡ unwrap_or (slice_get (slice_set xs i z) i) None → slice_set xs i y ≡ slice_set xs i z
set_same [] i y z e = refl
set_same (x ∷ xs) zero y z e = ap (λ a. a ∷ xs) e
set_same (x ∷ xs) (suc i) y z e = ap (λ rest. x ∷ rest) (set_same xs i y z e)

go_same : (one other : Workpiece) (tables : Tables) (p : Point) (w : World) (target : Point)
    → IsSame None (go (setup_of one tables) w target) (go (setup_of other tables) (standing p w) target)
go_same one other tables p w target =
    after_two None (free_move Move one (coordinate w.position) (coordinate target)) (free_move Move other (coordinate p) (coordinate target))
    (λ _. Gives (standing target w)) (λ _. Gives (standing target (standing p w))) (λ a b. record { same = λ m. refl })

module _ (w : World) (index : ℕ) (d : Axis) where
  -- a state behind a touch
  abbrev pub put : World → Touch → Point → World
  put old t at = record old { position = t.retract; actual = slice_set w.actual index (Some (record { at = at; toward = d })) }

  abbrev pub told : World → Touch → Outcome World
  told old t = point_at (to_part w.frame (coordinate t.at)) >>= (λ at. Gives (put old t at))

  put_same : (p : Point) (x y : Touch) (at there : Point) → MeasuredAlike (Some index) (put w x at) (put (standing p w) y there)
      → put (standing p w) y there ≡ standing y.retract (put w x at)
  put_same p x y at there m =
      let e = sym (set_same w.actual index (Some (record { at = at; toward = d })) (Some (record { at = there; toward = d })) (m index refl)) in
      λ t. record w { position = y.retract; actual = e t }

  touched_same : (p : Point) (o q : Outcome Touch) → IsSame (Some index) (o >>= told w) (q >>= told (standing p w))
  touched_same p o q =
      after_two (Some index) o q (told w) (told (standing p w)) (λ x y.
      after_two (Some index) (point_at (to_part w.frame (coordinate x.at))) (point_at (to_part w.frame (coordinate y.at)))
      (λ at. Gives (put w x at)) (λ at. Gives (put (standing p w) y at)) (λ at there. record { same = put_same p x y at there }))

pub moving : (one other : Workpiece) (tables : Tables) (p : Point) (w : World) (s : Simple ℤ)
    → IsSame (measured_in s) (carried_out (setup_of one tables) w s) (carried_out (setup_of other tables) (standing p w) s)
unfolding carried_out
moving one other tables p w (Goto x y z) = after_one None (machine_point w x y z) _ _ (go_same one other tables p w)
moving one other tables p w GoHome =
    after_two None (free_move Move one (coordinate w.position) (coordinate one.bounds.home)) (free_move Move other (coordinate p) (coordinate other.bounds.home))
    (λ _. Gives (standing one.bounds.home w)) (λ _. Gives (standing other.bounds.home (standing p w))) (λ a b. record { same = λ m. refl })
moving one other tables p w (PtMeas i x y z given) =
    after_one (Some i) (measured_direction w i given) _ _ (λ d. after_one (Some i) (machine_point w x y z) _ _ (λ nominal.
    touched_same w i d p (touch one w.settings (coordinate w.position) (coordinate nominal) (direction w.frame.turn d))
    (touch other w.settings (coordinate p) (coordinate nominal) (direction w.frame.turn d))))
moving one other tables p w s = is_also None p _ _ (resting one other tables p w s tt)

-- ---- a statement whose expressions were evaluated measures what it measured before

abbrev MeasuresIn : Option ℕ → Outcome (Simple ℤ) → Type 0
MeasuresIn which (Gives s) = measured_in s ≡ which
MeasuresIn which (Stops why) = Unit {0}

pub record Measures (which : Option ℕ) (o : Outcome (Simple ℤ)) : Type 0 where
  pub measures : MeasuresIn which o

value_measures : (which : Option ℕ) (o : Outcome ℤ) (f : ℤ → Outcome (Simple ℤ)) → ((x : ℤ) → Measures which (f x)) → Measures which (o >>= f)
value_measures which (Gives x) f h = h x
value_measures which (Stops why) f h = record { measures = tt }

three_measure : {E : Type 0} (which : Option ℕ) (value : E → Outcome ℤ) (x y z : E) (statement : ℤ → ℤ → ℤ → Simple ℤ)
    → ((a b c : ℤ) → measured_in (statement a b c) ≡ which) → Measures which (evaluated_three value x y z statement)
three_measure which value x y z statement h =
    value_measures which (value x) _ (λ a. value_measures which (value y) _ (λ b. value_measures which (value z) _ (λ c. record { measures = h a b c })))

pub evaluated_measures : {E : Type 0} (value : E → Outcome ℤ) (s : Simple E) → Measures (measured_in s) (evaluated value s)
evaluated_measures value (Goto x y z) = three_measure None value x y z _ (λ a b c. refl)
evaluated_measures value GoHome = record { measures = refl }
evaluated_measures value (Assign v e) = value_measures None (value e) _ (λ a. record { measures = refl })
evaluated_measures value (Feat i x y z d) = three_measure None value x y z _ (λ a b c. refl)
evaluated_measures value (PtMeas i x y z d) = three_measure (Some i) value x y z _ (λ a b c. refl)
evaluated_measures value (SnSet which e) = value_measures None (value e) _ (λ a. record { measures = refl })
evaluated_measures value (Trans i x y z) = three_measure None value x y z _ (λ a b c. refl)
evaluated_measures value (Rotate i axis n) = record { measures = refl }
evaluated_measures value (Recall i) = record { measures = refl }
evaluated_measures value (Obtain v source i word) = record { measures = refl }
evaluated_measures value (Output source i) = record { measures = refl }
evaluated_measures value (Text bytes) = record { measures = refl }

-- so effects beside two workpieces leave them the same
pub effect_same : {E : Type 0} (value : List ℤ → E → Result ℤ Fault) (one other : Workpiece) (tables : Tables) (p : Point) (w : World) (s : Simple E)
    → IsSame (measured_in s) (effect value (setup_of one tables) w s) (effect value (setup_of other tables) (standing p w) s)
unfolding effect value_in
effect_same value one other tables p w s = by (evaluated (value_in value w) s) (evaluated_measures (value_in value w) s)
  where
    by : (o : Outcome (Simple ℤ)) → Measures (measured_in s) o
        → IsSame (measured_in s) (o >>= carried_out (setup_of one tables) w) (o >>= carried_out (setup_of other tables) (standing p w))
    by (Gives t) m = subst (λ which. IsSame which (carried_out (setup_of one tables) w t) (carried_out (setup_of other tables) (standing p w) t)) m.measures (moving one other tables p w t)
    by (Stops why) m = record { same = tt }

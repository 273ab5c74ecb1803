-- Statements beside workpieces with three tips: where those with the narrowest and the widest go alike, that between them goes so too.
use Rattle.std.proofs.Common.{◌≡◌, ℕ, zero, suc, ◌<◌, ◌≤◌, ℤ, ◌+ℤ◌, ◌*ℤ◌, Bool, true, false, Option, Some, None, List, [], ◌∷◌, Result, refl, sym, ap, ◌∙◌, subst, arith}
use Rattle.std.specs.Prelude.{slice_get, slice_set, unwrap_or, length}
use Rattle.vcm_num.specs.declared.axis.Axis.{Axis}
use Rattle.vcm_num.specs.declared.number.Fault.{Fault}
use Rattle.vcm_num.specs.declared.point.Point.{Point}
use Rattle.vcm_num.specs.Point.{coordinate}
use Rattle.vcm_spec.specs.declared.feature.Feature.{Feature}
use Rattle.vcm_spec.specs.declared.feature.Touch.{Touch}
use Rattle.vcm_spec.specs.declared.stop.Stop.{Stop}
use Rattle.vcm_spec.specs.declared.stop.Stop.TheVariants.{Overflow}
use Rattle.vcm_spec.specs.declared.words.MovePhase.TheVariants.{Move}
use Rattle.vcm_spec.specs.Frame.{Frame, entry, is_turn, direction, to_part}
use Rattle.vcm_spec.specs.Workpiece.{Workpiece, IsValid}
use Rattle.vcm_spec.specs.FirstTouch.{free_move, touch}
use Rattle.vcm_spec.specs.Setup.{Setup, Tables, setup_of}
use Rattle.vcm_spec.specs.World.{World}
use Rattle.vcm_spec.specs.Outcome.{Outcome, Gives, Stops, ◌>>=◌, demand, fits_place, point_of}
use Rattle.vcm_spec.specs.Simple.{Simple, evaluated}
use Rattle.vcm_spec.specs.declared.simple.Simple.TheVariants.{Goto, GoHome, PtMeas}
use Rattle.vcm_spec.specs.Effect.{effect, carried_out, value_in, go, measured_direction, machine_point}
use Rattle.vcm_spec.proofs.Entries.{below_three}
use Rattle.vcm_spec.proofs.Frames.{back_and_there}
use Rattle.vcm_part.specs.Tip.{with_tip}
use Rattle.vcm_margin.proofs.Cubes.{LiesIn, lies_there}
use Rattle.vcm_margin.proofs.Squeezed.{move_narrower, TouchesSo, touch_squeezed}
use Rattle.vcm_margin.proofs.Sound.{IsSound}
use Rattle.vcm_margin.proofs.Beside.{standing, also, measured_in, MeasuredAlike, resting, put, told, Measures, evaluated_measures}

-- what comes out with the tip between, where u comes out with the narrowest and v with the widest
pub record Reaches (h i : ℕ) (u v : World) (o : Outcome World) : Type 0 where
  pub reached : World
  pub is : o ≡ Gives reached
  pub same : reached ≡ standing reached.position u
  pub lies : LiesIn h (coordinate reached.position) i (coordinate v.position)

-- so it is where both of those go on and what was measured is the same
abbrev pub BetweenIn : Option ℕ → ℕ → ℕ → Outcome World → Outcome World → Outcome World → Type 0
BetweenIn which h i (Gives u) o (Gives v) = MeasuredAlike which u v → Reaches h i u v o
BetweenIn which h i _ o _ = Unit {0}

pub record IsBetween (which : Option ℕ) (h i : ℕ) (a b c : Outcome World) : Type 0 where
  pub between : BetweenIn which h i a b c

-- one thing before them that is the same
after_same : {A : Type 0} (which : Option ℕ) (h i : ℕ) (o : Outcome A) (f g k : A → Outcome World)
    → ((x : A) → IsBetween which h i (f x) (g x) (k x)) → IsBetween which h i (o >>= f) (o >>= g) (o >>= k)
after_same which h i (Gives x) f g k t = t x
after_same which h i (Stops why) f g k t = record { between = tt }

last_stops : (which : Option ℕ) (h i : ℕ) (a b : Outcome World) (why : Stop) → IsBetween which h i a b (Stops why)
last_stops which h i (Gives w) b why = record { between = tt }
last_stops which h i (Stops other) b why = record { between = tt }

all_also : (which : Option ℕ) (h i : ℕ) (b c : Point) → LiesIn h (coordinate b) i (coordinate c) → (o : Outcome World) → IsBetween which h i o (also b o) (also c o)
all_also which h i b c l (Gives w) = record { between = λ m. record { reached = standing b w; is = refl; same = refl; lies = l } }
all_also which h i b c l (Stops why) = record { between = tt }

-- ---- moves

moved : (h i : ℕ) → h ≤ i → (w : World) (target b c : Point) (p q r : Outcome (Unit {0})) → (r ≡ Gives tt → q ≡ Gives tt)
    → IsBetween None h i (p >>= (λ _. Gives (standing target w))) (q >>= (λ _. Gives (standing target (standing b w)))) (r >>= (λ _. Gives (standing target (standing c w))))
moved h i le w target b c (Gives x) q (Gives y) free = record {
  between = λ m. record {
    reached = standing target w;
    is = ap (λ (o : Outcome (Unit {0})). o >>= (λ _. Gives (standing target w))) (free refl);
    same = refl;
    lies = lies_there h i (coordinate target) le;
  };
}
moved h i le w target b c (Gives x) q (Stops why) free = record { between = tt }
moved h i le w target b c (Stops why) q r free = record { between = tt }

-- ---- measurements

set_get : {A : Type 0} (xs : List (Option A)) (i : ℕ) (y : Option A) → i < length xs → unwrap_or (slice_get (slice_set xs i y) i) None ≡ y
set_get [] i y l = absurd (omega (arith, l))
set_get (x ∷ xs) zero y l = refl
set_get (x ∷ xs) (suc i) y l = set_get xs i y (omega (arith, l))

some_is : {A : Type 0} {x y : A} → Some x ≡ Some y → x ≡ y
some_is {A = A} {x = x} e = ap (λ o. inside o) e
  where
    inside : Option A → A
    inside (Some a) = a
    inside None = x

abbrev feature_at : (ℕ → ℤ) → Axis → Feature
feature_at x d = record { at = point_of x; toward = d }

-- two places that are one point in part coordinates are one
one_place : (f : Frame) → is_turn f.turn ≡ true → (x y : ℕ → ℤ) → point_of (to_part f x) ≡ point_of (to_part f y) → (k : ℕ) → k < 3 → x k ≡ y k
one_place f turn x y e k l =
    let each : (j : ℕ) → j < 3 → to_part f x j ≡ to_part f y j =
    below_three (λ j. to_part f x j ≡ to_part f y j) (ap (λ (p : Point). coordinate p 0) e) (ap (λ (p : Point). coordinate p 1) e) (ap (λ (p : Point). coordinate p 2) e) in
    let a = each 0 (omega arith) in
    let b = each 1 (omega arith) in
    let c = each 2 (omega arith) in
    sym (back_and_there f x k turn l)
    ∙ (λ t. (entry f.turn k 0 *ℤ a t +ℤ entry f.turn k 1 *ℤ b t +ℤ entry f.turn k 2 *ℤ c t) +ℤ coordinate f.origin k)
    ∙ back_and_there f y k turn l

module _ (h i : ℕ) (w : World) (index : ℕ) (d : Axis) (turn : is_turn w.frame.turn ≡ true) (stands : index < length w.actual) (b c : Point) where
  abbrev out : World → Touch → Bool → Outcome World
  out old t fits = (demand fits Overflow >>= (λ _. Gives (point_of (to_part w.frame (coordinate t.at))))) >>= (λ at. Gives (put w index d old t at))

  measured : (p q r : Outcome Touch)
      → ((x z : Touch) → p ≡ Gives x → r ≡ Gives z → ((k : ℕ) → k < 3 → coordinate x.at k ≡ coordinate z.at k) → TouchesSo h i q x z)
      → IsBetween (Some index) h i (p >>= told w index d w) (q >>= told w index d (standing b w)) (r >>= told w index d (standing c w))
  measured (Stops why) q r so = record { between = tt }
  measured (Gives x) q (Stops why) so = last_stops (Some index) h i (told w index d w x) (q >>= told w index d (standing b w)) why
  measured (Gives x) q (Gives z) so = by (fits_place (to_part w.frame (coordinate x.at))) refl (fits_place (to_part w.frame (coordinate z.at)))
    where
      by : (m : Bool) → fits_place (to_part w.frame (coordinate x.at)) ≡ m → (n : Bool)
          → IsBetween (Some index) h i (out w x m) (q >>= told w index d (standing b w)) (out (standing c w) z n)
      by true e true = record {
        between = λ m. (
            let u : Option Feature = Some (feature_at (to_part w.frame (coordinate x.at)) d) in
            let v : Option Feature = Some (feature_at (to_part w.frame (coordinate z.at)) d) in
            let same : u ≡ v = sym (set_get w.actual index u stands) ∙ m index refl ∙ set_get w.actual index v stands in
            let points : point_of (to_part w.frame (coordinate x.at)) ≡ point_of (to_part w.frame (coordinate z.at)) = ap (λ (f : Feature). f.at) (some_is same) in
            let t = so x z refl refl (one_place w.frame turn (coordinate x.at) (coordinate z.at) points) in
            let touched : Touch = record { at = x.at; retract = t.retract } in
            record {
              reached = put w index d (standing b w) touched (point_of (to_part w.frame (coordinate x.at)));
              is = ap (λ o. o >>= told w index d (standing b w)) t.is ∙ ap (out (standing b w) touched) e;
              same = refl;
              lies = t.lies;
            });
      }
      by true e false = record { between = tt }
      by false e n = record { between = tt }

-- ---- all statements

module _ (part : Workpiece) (tables : Tables) (g h i : ℕ) (le : g ≤ h) (more : h ≤ i)
    (vg : IsValid (with_tip g part)) (vh : IsValid (with_tip h part)) (vi : IsValid (with_tip i part))
    (n : ℕ) (w : World) (sound : IsSound n w) (back : 0 < w.settings.retract) (b c : Point) (l : LiesIn h (coordinate b) i (coordinate c)) where
  abbrev narrow : Setup
  narrow = setup_of (with_tip g part) tables

  abbrev middle : Setup
  middle = setup_of (with_tip h part) tables

  abbrev wide : Setup
  wide = setup_of (with_tip i part) tables

  gone : (target : Point) → IsBetween None h i (go narrow w target) (go middle (standing b w) target) (go wide (standing c w) target)
  gone target =
      moved h i more w target b c (free_move Move (with_tip g part) (coordinate w.position) (coordinate target)) (free_move Move (with_tip h part) (coordinate b) (coordinate target))
      (free_move Move (with_tip i part) (coordinate c) (coordinate target))
      (move_narrower part h i vh vi more Move (coordinate b) (coordinate c) (coordinate target) l)

  still : (s : Simple ℤ) → (carried_out middle (standing b w) s ≡ also b (carried_out narrow w s)) → (carried_out wide (standing c w) s ≡ also c (carried_out narrow w s))
      → IsBetween (measured_in s) h i (carried_out narrow w s) (carried_out middle (standing b w) s) (carried_out wide (standing c w) s)
  still s e f =
      subst (λ o. IsBetween (measured_in s) h i (carried_out narrow w s) o (carried_out wide (standing c w) s)) (sym e)
      (subst (λ o. IsBetween (measured_in s) h i (carried_out narrow w s) (also b (carried_out narrow w s)) o) (sym f)
      (all_also (measured_in s) h i b c l (carried_out narrow w s)))

  -- a statement that doesn't move the probe
  rested : (s : Simple ℤ) → (p : (q : Workpiece) (at : Point) → carried_out (setup_of q tables) (standing at w) s ≡ also at (carried_out narrow w s))
      → IsBetween (measured_in s) h i (carried_out narrow w s) (carried_out middle (standing b w) s) (carried_out wide (standing c w) s)
  rested s p = still s (p (with_tip h part) b) (p (with_tip i part) c)

  between : (s : Simple ℤ) → ((j : ℕ) → measured_in s ≡ Some j → j < n)
      → IsBetween (measured_in s) h i (carried_out narrow w s) (carried_out middle (standing b w) s) (carried_out wide (standing c w) s)
  unfolding carried_out
  between (Goto x y z) k = after_same None h i (machine_point w x y z) _ _ _ gone
  between GoHome k = gone part.bounds.home
  between (PtMeas index x y z given) k =
      after_same (Some index) h i (measured_direction w index given) _ _ _ (λ d.
      after_same (Some index) h i (machine_point w x y z) _ _ _ (λ nominal.
      measured h i w index d sound.turns.current (subst (λ m. index < m) (sym sound.features) (k index refl)) b c
      (touch (with_tip g part) w.settings (coordinate w.position) (coordinate nominal) (direction w.frame.turn d))
      (touch (with_tip h part) w.settings (coordinate b) (coordinate nominal) (direction w.frame.turn d))
      (touch (with_tip i part) w.settings (coordinate c) (coordinate nominal) (direction w.frame.turn d))
      (touch_squeezed part w.settings (coordinate nominal) (direction w.frame.turn d) g h i le more vg vh vi back (coordinate w.position) (coordinate b) (coordinate c) l)))
  between s k = rested s (λ q at. resting (with_tip g part) q tables at w s tt)

  -- so effects
  pub effect_between : {E : Type 0} (value : List ℤ → E → Result ℤ Fault) (s : Simple E) → ((j : ℕ) → measured_in s ≡ Some j → j < n)
      → IsBetween (measured_in s) h i (effect value narrow w s) (effect value middle (standing b w) s) (effect value wide (standing c w) s)
  unfolding effect value_in
  effect_between value s k = by (evaluated (value_in value w) s) (evaluated_measures (value_in value w) s)
    where
      by : (o : Outcome (Simple ℤ)) → Measures (measured_in s) o
          → IsBetween (measured_in s) h i (o >>= carried_out narrow w) (o >>= carried_out middle (standing b w)) (o >>= carried_out wide (standing c w))
      by (Gives t) m =
          subst (λ which. IsBetween which h i (carried_out narrow w t) (carried_out middle (standing b w) t) (carried_out wide (standing c w) t)) m.measures
          (between t (λ j e. k j (sym m.measures ∙ e)))
      by (Stops why) m = record { between = tt }

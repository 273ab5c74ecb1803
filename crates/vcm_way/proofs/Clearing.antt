-- The marks of a way are what they show.
use Rattle.std.specs.Prelude.{◌<◌, ◌-◌, ◌*◌, IsTrue, unwrap_or, option_and_then, option_map}
use Rattle.std.specs.List.{AllByRecursion}
use Rattle.std.proofs.Common.{◌≡◌, ℕ, zero, suc, ◌+◌, ◌≤◌, ℤ, Bool, true, false, List, [], ◌∷◌, ◌++◌, Option, Some, None, slice_get, refl, sym, ap, ◌∙◌, subst, inl, inr, arith}
use Rattle.std.proofs.lemmas.Int.{ints}
use Rattle.vcm_num.specs.declared.axis.Axis.{Axis}
use Rattle.vcm_num.specs.declared.point.Point.{Point}
use Rattle.vcm_num.specs.Axis.{opposite}
use Rattle.vcm_num.specs.Point.{coordinate}
use Rattle.vcm_spec.specs.declared.feature.Touch.{Touch}
use Rattle.vcm_spec.specs.declared.stop.Stop.{Stop}
use Rattle.vcm_spec.specs.declared.stop.Stop.TheVariants.{Ended, Overflow, DivZero, ZeroStep, Undefined, BadSetting, OutputFull, Travel, Collision, Missed}
use Rattle.vcm_spec.specs.declared.words.MovePhase.TheVariants.{Move, Approach, Search, Retract}
use Rattle.vcm_spec.specs.declared.workpiece.Block3.{Block3}
use Rattle.vcm_spec.specs.declared.workpiece.Hit.{Hit}
use Rattle.vcm_spec.specs.Contact.{IsBetween, IsShared, Meets, MeetsLater, TipMeets, TipMeetsLater, IsFirst, IsHit, IsClear, IsAnswer}
use Rattle.vcm_spec.specs.FirstContact.{Fraction, contact, entry}
use Rattle.vcm_spec.specs.FirstTouch.{free_of, free_move, touch}
use Rattle.vcm_spec.specs.Outcome.{Outcome, Gives, Stops, ◌>>=◌, demand, point_of}
use Rattle.vcm_spec.specs.Rests.{Rests}
use Rattle.vcm_spec.specs.Touch.{centre_of, approach_of, end_of, down_of, back_of, past, IsAimed, IsApproached, IsTouched, IsTouchAt, IsTouch}
use Rattle.vcm_spec.specs.Workpiece.{Workpiece, IsValid, grown, is_within, is_blocked}
use Rattle.vcm_spec.specs.World.{Settings, World}
use Rattle.vcm_spec.proofs.Contacts.{contact_is}
use Rattle.vcm_spec.proofs.Entries.{entry_is, below_three, cancelled, Leaves}
use Rattle.vcm_spec.proofs.FirstOf.{IsEntry}
use Rattle.vcm_spec.proofs.Fractions.{not_after_trans, before_after}
use Rattle.vcm_spec.proofs.Tips.{in_order, tip_meets, meets_tip}
use Rattle.vcm_spec.proofs.Touches.{leaves, touch_is}
use Rattle.vcm_code.specs.declared.code.Code.{Code}
use Rattle.vcm_machine.proofs.RestsAlong.{rests_always}
use Rattle.vcm_motion.specs.Places.{point_on_way, entry_point}
use Rattle.vcm_probe.proofs.Descent.{end_back}
use Rattle.vcm_marks.specs.declared.mark.Going.{Going}
use Rattle.vcm_marks.specs.declared.mark.Going.TheVariants as going
use Rattle.vcm_marks.specs.declared.mark.Mark.{Mark}
use Rattle.vcm_steps.specs.Passages.{Passage, passages, setup_with, state_after}
use Rattle.vcm_way.specs.declared.task.Measuring.{Measuring}
use Rattle.vcm_way.specs.Laws.{WaysAreClear}
use Rattle.vcm_way.specs.Marks.{contact_point, meets_block, falls_short, goes, marks_of_move, marks_of_touch, touching, touching_at, touched_then, Touching}
use Rattle.vcm_way.specs.Meaning.{met_on, IsSearch, IsClearPiece, IsTouched as HasTouchedAt, AreTrue}
use Rattle.vcm_way.specs.Ways.{step_marks}
use Rattle.vcm_way.proofs.Depth.{points_are}
use Rattle.vcm_way.proofs.Hanging.{IsNext, next_step}
use Rattle.vcm_way.proofs.Went.{Went, stays, moves, halts, touches, misses}

-- ---- places that are the same on three axes

abbrev Same : (ℕ → ℤ) → (ℕ → ℤ) → Type 0
Same x y = (k : ℕ) → k < 3 → x k ≡ y k

itself : (x : ℕ → ℤ) → Same x x
itself x k l = refl

point_same : (x : ℕ → ℤ) → Same x (coordinate (point_of x))
point_same x = below_three (λ k. x k ≡ coordinate (point_of x) k) refl refl refl

same_point : (x : ℕ → ℤ) → Same (coordinate (point_of x)) x
same_point x = below_three (λ k. coordinate (point_of x) k ≡ x k) refl refl refl

tip_same : (h : ℕ) (x x' y y' : ℕ → ℤ) → Same x x' → Same y y' → (block : Block3) (a b : ℕ) → TipMeets h x y block a b → TipMeets h x' y' block a b
tip_same h x x' y y' e f block a b m = record {
  fraction = m.fraction;
  shared = m.shared;
  on_axis = λ k l.
      subst (λ (p : ℤ). IsShared h (coordinate block.low k) (coordinate block.high k) p (y' k) a b (m.shared k)) (e k l)
      (subst (λ (q : ℤ). IsShared h (coordinate block.low k) (coordinate block.high k) (x k) q a b (m.shared k)) (f k l) (m.on_axis k l));
}

later_same : (h : ℕ) (x x' y y' : ℕ → ℤ) → Same x x' → Same y y' → (block : Block3) (a b : ℕ) → TipMeetsLater h x y block a b → TipMeetsLater h x' y' block a b
later_same h x x' y y' e f block a b m = record { meets = tip_same h x x' y y' e f block a b m.meets; later = m.later }

meets_same : (x x' y y' : ℕ → ℤ) → Same x x' → Same y y' → (block : Block3) (a b : ℕ) → Meets x y block a b → Meets x' y' block a b
meets_same x x' y y' e f block a b m = record {
  fraction = m.fraction;
  on_axis = λ k l.
      subst (λ (p : ℤ). IsBetween (coordinate block.low k) (coordinate block.high k) p (y' k) a b) (e k l)
      (subst (λ (q : ℤ). IsBetween (coordinate block.low k) (coordinate block.high k) (x k) q a b) (f k l) (m.on_axis k l));
}

-- the first block is the same where blocks are met at the same fractions
first_same : (blocks : List Block3) (M N : Block3 → ℕ → ℕ → Type 0) → ((block : Block3) (a b : ℕ) → M block a b → N block a b) → ((block : Block3) (a b : ℕ) → N block a b → M block a b)
    → (index a b : ℕ) → IsFirst blocks M index a b → IsFirst blocks N index a b
first_same blocks M N to back index a b first = record {
  block = first.block;
  stands = first.stands;
  meets = to first.block a b first.meets;
  earliest = λ j other s c d m. first.earliest j other s c d (back other c d m);
  lowest = λ j other l s c d m. first.lowest j other l s c d (back other c d m);
}

clear_same : (blocks : List Block3) (M N : Block3 → ℕ → ℕ → Type 0) → ((block : Block3) (a b : ℕ) → N block a b → M block a b) → IsClear blocks M → IsClear blocks N
clear_same blocks M N back clear j block s a b m = clear j block s a b (back block a b m)

-- ---- where the first block is entered

module _ (part : Workpiece) (valid : IsValid part) (x y : ℕ → ℤ) where
  abbrev tip : ℕ
  tip = part.bounds.tip

  -- a block is entered where it is met first
  record Entered (M : Block3 → ℕ → ℕ → Type 0) (index : ℕ) (block : Block3) : Type 0 where
    at : Fraction
    entered : entry x y (grown tip block) ≡ Some at
    first : IsFirst part.blocks M index at.num at.den

  earlier : (M : Block3 → ℕ → ℕ → Type 0) (index a b : ℕ) → 0 < b → IsFirst part.blocks M index a b → (block : Block3) → slice_get part.blocks index ≡ Some block
      → (f : Fraction) → 0 < f.den → M block f.num f.den → f.num * b ≤ a * f.den → IsFirst part.blocks M index f.num f.den
  earlier M index a b positive first block stands f below meets le = record {
    block = block;
    stands = stands;
    meets = meets;
    earliest = λ j other s c d m. not_after_trans f.num f.den a b c d positive le (first.earliest j other s c d m);
    lowest = λ j other l s c d m. before_after f.num f.den a b c d below le (first.lowest j other l s c d m);
  }

  first_entered : (index a b : ℕ) (first : IsFirst part.blocks (TipMeets tip x y) index a b) → Entered (TipMeets tip x y) index first.block
  first_entered index a b first = by (entry x y (grown tip first.block)) refl (entry_is x y (grown tip first.block))
    where
      by : (o : Option Fraction) → entry x y (grown tip first.block) ≡ o → IsEntry (Meets x y) (grown tip first.block) o → Entered (TipMeets tip x y) index first.block
      by None e h = absurd (h a b (tip_meets tip x y first.block a b first.meets))
      by (Some f) e h = record {
        at = f;
        entered = e;
        first = earlier (TipMeets tip x y) index a b first.meets.fraction.positive first first.block first.stands f h.meets.fraction.positive
            (meets_tip tip x y first.block (in_order part valid index first.block first.stands) f.num f.den h.meets)
            (h.least a b (tip_meets tip x y first.block a b first.meets));
      }

  start_between : (low high p q : ℤ) (b : ℕ) → 0 < b → IsBetween low high p q 0 b → IsBetween low high p q 0 1
  start_between low high p q b h on =
      let above = cancelled b low p h (let e = on.above in omega (arith, ints)) in
      let below = cancelled b p high h (let e = on.below in omega (arith, ints)) in
      record { above = omega (arith, ints); below = omega (arith, ints) }

  at_start : (block : Block3) (n d : ℕ) → n ≡ 0 → Meets x y block n d → Meets x y block 0 1
  at_start block n d e m = record {
    fraction = record { positive = omega arith; within = omega arith };
    on_axis = λ k l. start_between _ _ _ _ d m.fraction.positive (subst (λ (i : ℕ). IsBetween (coordinate block.low k) (coordinate block.high k) (x k) (y k) i d) e (m.on_axis k l));
  }

  -- the same, the start left out, where a block that holds the start isn't met later
  first_entered_later : ((j : ℕ) (block : Block3) → slice_get part.blocks j ≡ Some block → Leaves x y (grown tip block))
      → (index a b : ℕ) (first : IsFirst part.blocks (TipMeetsLater tip x y) index a b) → Entered (TipMeetsLater tip x y) index first.block
  first_entered_later leave index a b first = by (entry x y (grown tip first.block)) refl (entry_is x y (grown tip first.block))
    where
      hit : MeetsLater x y (grown tip first.block) a b
      hit = record { meets = tip_meets tip x y first.block a b first.meets.meets; later = first.meets.later }

      later : (f : Fraction) (n : ℕ) → f.num ≡ n → Meets x y (grown tip first.block) f.num f.den → 0 < f.num
      later f zero e m = absurd (leave index first.block first.stands (at_start (grown tip first.block) f.num f.den e m) a b hit)
      later f (suc n) e m = omega (arith, e)

      by : (o : Option Fraction) → entry x y (grown tip first.block) ≡ o → IsEntry (Meets x y) (grown tip first.block) o → Entered (TipMeetsLater tip x y) index first.block
      by None e h = absurd (h a b hit.meets)
      by (Some f) e h = record {
        at = f;
        entered = e;
        first = earlier (TipMeetsLater tip x y) index a b first.meets.meets.fraction.positive first first.block first.stands f h.meets.fraction.positive
            (record { meets = meets_tip tip x y first.block (in_order part valid index first.block first.stands) f.num f.den h.meets; later = later f f.num refl h.meets })
            (h.least a b hit.meets);
      }

-- ---- contacts

module _ (part : Workpiece) (valid : IsValid part) (a b : Point) where
  abbrev wide : ℕ
  wide = part.bounds.tip

  contact_at : (n index : ℕ) (block : Block3) (f : Fraction) → n ≡ index + 1 → slice_get part.blocks index ≡ Some block → entry (coordinate a) (coordinate b) (grown wide block) ≡ Some f
      → contact_point part n a b ≡ point_on_way f (coordinate a) (coordinate b)
  contact_at n index block f e stands entered =
      ap (λ o. unwrap_or (option_and_then (λ block. entry_point wide block (coordinate a) (coordinate b)) o) a)
      (ap (slice_get part.blocks) (let i : n - 1 ≡ index = omega (arith, e) in i) ∙ stands)
      ∙ ap (λ o. unwrap_or (option_map (λ f. point_on_way f (coordinate a) (coordinate b)) o) a) entered

  meets_true : (how : Going) (hit : Hit) (index : ℕ) (block : Block3) → hit.block ≡ index + 1 → slice_get part.blocks index ≡ Some block
      → Entered part valid (coordinate a) (coordinate b) (met_on part how a b) index block → AreTrue part (meets_block part how a b hit.block)
  meets_true how hit index block number stands e = (
    record {
      fraction = e.at;
      index = index;
      number = number;
      first = e.first;
      stands = contact_at hit.block index block e.at number stands e.entered;
      from = refl;
      to = refl;
      left = refl;
      aim = refl;
    },
    tt,
  )

  move_met : (hit : Hit) → IsHit part.blocks (TipMeets wide (coordinate a) (coordinate b)) hit → AreTrue part (meets_block part going.Move a b hit.block)
  move_met hit h =
      meets_true going.Move hit h.index h.first.block h.number h.first.stands (first_entered part valid (coordinate a) (coordinate b) h.index h.a h.b h.first)

  approach_met : (hit : Hit) → IsHit part.blocks (TipMeets wide (coordinate a) (coordinate b)) hit → AreTrue part (meets_block part going.Approach a b hit.block)
  approach_met hit h =
      meets_true going.Approach hit h.index h.first.block h.number h.first.stands (first_entered part valid (coordinate a) (coordinate b) h.index h.a h.b h.first)

  retract_met : ((j : ℕ) (block : Block3) → slice_get part.blocks j ≡ Some block → Leaves (coordinate a) (coordinate b) (grown wide block)) → (hit : Hit)
      → IsHit part.blocks (TipMeetsLater wide (coordinate a) (coordinate b)) hit → AreTrue part (meets_block part going.Retract a b hit.block)
  retract_met leave hit h =
      meets_true going.Retract hit h.index h.first.block h.number h.first.stands (first_entered_later part valid (coordinate a) (coordinate b) leave h.index h.a h.b h.first)

-- ---- straight moves

reason_of : Stop → Outcome (Unit {0}) → Stop
reason_of other (Stops why) = why
reason_of other (Gives x) = other

stops_is : (o : Outcome (Unit {0})) (x y : Stop) → o ≡ Stops x → o ≡ Stops y → x ≡ y
unfolding reason_of
stops_is o x y e f = ap (reason_of x) (sym e ∙ f)

module _ (part : Workpiece) (valid : IsValid part) (p q : Point) where
  abbrev freely : Bool → Option Hit → Outcome (Unit {0})
  freely w o = demand w (Travel Move) >>= (λ _. free_of Move o)

  move_free : (w : Bool) (o : Option Hit) → IsAnswer part.blocks (TipMeets part.bounds.tip (coordinate p) (coordinate q)) o → (u : Unit {0}) → freely w o ≡ Gives u
      → AreTrue part (marks_of_move part p q None)
  move_free true None h u e = (h, tt)
  move_free true (Some hit) h u e = absurd cc
  move_free false o h u e = absurd cc

  move_stopped : (w : Bool) (o : Option Hit) → IsAnswer part.blocks (TipMeets part.bounds.tip (coordinate p) (coordinate q)) o → (why : Stop) → freely w o ≡ Stops why
      → AreTrue part (marks_of_move part p q (Some why))
  move_stopped true None h why e = absurd cc
  move_stopped true (Some hit) h why e =
      subst (λ s. AreTrue part (marks_of_move part p q (Some s))) (stops_is (freely true (Some hit)) (Collision Move hit) why refl e) (move_met part valid p q hit h)
  move_stopped false o h why e = subst (λ s. AreTrue part (marks_of_move part p q (Some s))) (stops_is (freely false o) (Travel Move) why refl e) (tt, tt)

  moves_true : (u : Unit {0}) → free_move Move part (coordinate p) (coordinate q) ≡ Gives u → AreTrue part (marks_of_move part p q None)
  moves_true u e = move_free (is_within part.bounds (coordinate q)) (contact part (coordinate p) (coordinate q)) (contact_is part valid (coordinate p) (coordinate q)) u e

  halts_true : (why : Stop) → free_move Move part (coordinate p) (coordinate q) ≡ Stops why → AreTrue part (marks_of_move part p q (Some why))
  halts_true why e = move_stopped (is_within part.bounds (coordinate q)) (contact part (coordinate p) (coordinate q)) (contact_is part valid (coordinate p) (coordinate q)) why e

-- ---- measurements

module _ (part : Workpiece) (valid : IsValid part) (s : Settings) (p : Point) (centre : ℕ → ℤ) (d : Axis) (back : 0 < s.retract) (feature : ℕ) where
  abbrev points : Touching
  points = touching part s centre d feature

  abbrev points_at : ℕ → Touching
  points_at t = touching_at part s centre d feature t

  abbrev high : Point
  high = point_of (approach_of s centre d)

  abbrev marks : Touching → Option Stop → List Mark
  marks t stop = marks_of_touch part p t stop

  approach_clear : IsApproached part s (coordinate p) centre d → IsClearPiece part (record { going = going.Approach; from = p; to = high; aim = high })
  approach_clear h =
      clear_same part.blocks (TipMeets part.bounds.tip (coordinate p) (approach_of s centre d)) (TipMeets part.bounds.tip (coordinate p) (coordinate high))
      (λ block a b m. tip_same part.bounds.tip (coordinate p) (coordinate p) (coordinate high) (approach_of s centre d) (itself (coordinate p)) (same_point (approach_of s centre d)) block a b m)
      h.clear

  search_touched : (t : ℕ) → IsTouched part s (coordinate p) centre d t
      → HasTouchedAt part (record { going = going.Search; from = high; to = (points_at t).touch; aim = (points_at t).touch }) (record { at = (points_at t).touched; feature = feature })
  search_touched t h = record {
    searched = record { axis = opposite d; distance = t; end = refl; clear = h.first };
    met = h.met;
    at = refl;
  }

  -- the way down to a touch, before what comes behind
  touched_true : (t : ℕ) → IsTouched part s (coordinate p) centre d t → (behind : List Mark) → AreTrue part behind → AreTrue part (touched_then p (points_at t) behind)
  touched_true t h behind after = (approach_clear h.searched.approached, (search_touched t h, after))

  -- by the points that are computed
  by_points : (t : ℕ) → IsTouched part s (coordinate p) centre d t → (stop : Option Stop) → AreTrue part (marks (points_at t) stop) → AreTrue part (marks points stop)
  by_points t h stop true_of = subst (λ x. AreTrue part (marks x stop)) (sym (points_are part s (coordinate p) centre d t h feature)) true_of

  abbrev low : ℕ → Point
  low t = point_of (down_of s centre d t)

  abbrev up : ℕ → Point
  up t = point_of (back_of s centre d t)

  leaves_points : (t : ℕ) → IsTouched part s (coordinate p) centre d t → (j : ℕ) (block : Block3) → slice_get part.blocks j ≡ Some block
      → Leaves (coordinate (low t)) (coordinate (up t)) (grown part.bounds.tip block)
  leaves_points t h j block stands start c e m =
      leaves part valid s (coordinate p) centre d back t h j block stands
      (meets_same (coordinate (low t)) (down_of s centre d t) (coordinate (up t)) (back_of s centre d t) (same_point _) (same_point _) (grown part.bounds.tip block) 0 1 start) c e
      (record {
        meets = meets_same (coordinate (low t)) (down_of s centre d t) (coordinate (up t)) (back_of s centre d t) (same_point _) (same_point _)
            (grown part.bounds.tip block) c e m.meets;
        later = m.later;
      })

  touch_true : (o : Outcome Touch) → IsTouchAt part s (coordinate p) centre d o → (t : Touch) → o ≡ Gives t → AreTrue part (marks points None)
  touch_true (Gives x) h t e =
      by_points h.0 h.1.touched None (touched_true h.0 h.1.touched (goes going.Retract (low h.0) (up h.0) ∷ []) (
        clear_same part.blocks (TipMeetsLater part.bounds.tip (down_of s centre d h.0) (back_of s centre d h.0)) (TipMeetsLater part.bounds.tip (coordinate (low h.0)) (coordinate (up h.0)))
            (λ block a b m. later_same part.bounds.tip (coordinate (low h.0)) (down_of s centre d h.0) (coordinate (up h.0)) (back_of s centre d h.0)
            (same_point _) (same_point _) block a b m) h.1.clear,
        tt,
      ))
  touch_true (Stops why) h t e = absurd cc

  -- a search that touches nothing
  missed_search : IsAimed s centre d → ((t : ℕ) → t ≤ s.approach + past s → ¬ IsTrue (is_blocked part (down_of s centre d t)))
      → IsSearch part (record { going = going.Search; from = high; to = point_of (end_of s centre d); aim = point_of (end_of s centre d) })
  missed_search aimed none = record {
    axis = opposite d;
    distance = s.approach + past s;
    end = end_back s centre d high (point_of (end_of s centre d)) (record { up = aimed.approach; down = aimed.end; approach_is = refl; end_is = refl });
    clear = λ t l. none t (omega (arith, l));
  }

  miss_true : (why : Stop) → IsTouchAt part s (coordinate p) centre d (Stops why) → AreTrue part (marks points (Some why))
  miss_true Overflow h = tt
  miss_true (Travel Approach) h = (tt, tt)
  miss_true (Collision Approach hit) h = approach_met part valid p high hit (hit_same h.2)
    where
      hit_same : IsHit part.blocks (TipMeets part.bounds.tip (coordinate p) (approach_of s centre d)) hit → IsHit part.blocks (TipMeets part.bounds.tip (coordinate p) (coordinate high)) hit
      hit_same k = record {
        index = k.index;
        a = k.a;
        b = k.b;
        first = first_same part.blocks (TipMeets part.bounds.tip (coordinate p) (approach_of s centre d)) (TipMeets part.bounds.tip (coordinate p) (coordinate high))
            (λ block a b m. tip_same part.bounds.tip (coordinate p) (coordinate p) (approach_of s centre d) (coordinate high) (itself (coordinate p)) (point_same (approach_of s centre d)) block a b m)
            (λ block a b m. tip_same part.bounds.tip (coordinate p) (coordinate p) (coordinate high) (approach_of s centre d) (itself (coordinate p)) (same_point (approach_of s centre d)) block a b m)
            k.index k.a k.b k.first;
        number = k.number;
        permille = k.permille;
      }
  miss_true (Travel Search) h = (approach_clear h.0, (tt, tt))
  miss_true Missed h = (approach_clear h.0.approached, (missed_search h.0.approached.aimed h.1, tt))
  miss_true (Travel Retract) h = by_points h.0 h.1 (Some (Travel Retract)) (touched_true h.0 h.1 (falls_short part.bounds (low h.0) (up h.0) ∷ []) (tt, tt))
  miss_true (Collision Retract hit) h =
      by_points h.0 h.1 (Some (Collision Retract hit)) (touched_true h.0 h.1 (meets_block part going.Retract (low h.0) (up h.0) hit.block)
      (retract_met part valid (low h.0) (up h.0) (leaves_points h.0 h.1) hit (hit_same h.3)))
    where
      hit_same : IsHit part.blocks (TipMeetsLater part.bounds.tip (down_of s centre d h.0) (back_of s centre d h.0)) hit
          → IsHit part.blocks (TipMeetsLater part.bounds.tip (coordinate (low h.0)) (coordinate (up h.0))) hit
      hit_same k = record {
        index = k.index;
        a = k.a;
        b = k.b;
        first = first_same part.blocks (TipMeetsLater part.bounds.tip (down_of s centre d h.0) (back_of s centre d h.0)) (TipMeetsLater part.bounds.tip (coordinate (low h.0)) (coordinate (up h.0)))
            (λ block a b m. later_same part.bounds.tip (down_of s centre d h.0) (coordinate (low h.0)) (back_of s centre d h.0) (coordinate (up h.0)) (point_same _) (point_same _) block a b m)
            (λ block a b m. later_same part.bounds.tip (coordinate (low h.0)) (down_of s centre d h.0) (coordinate (up h.0)) (back_of s centre d h.0) (same_point _) (same_point _) block a b m)
            k.index k.a k.b k.first;
        number = k.number;
        permille = k.permille;
      }
  miss_true (Travel Move) h = tt
  miss_true (Collision Move hit) h = tt
  miss_true (Collision Search hit) h = tt
  miss_true Ended h = tt
  miss_true DivZero h = tt
  miss_true ZeroStep h = tt
  miss_true (Undefined what) h = tt
  miss_true BadSetting h = tt
  miss_true OutputFull h = tt

-- ---- steps

module _ (part : Workpiece) (valid : IsValid part) (w : World) (rests : Rests part w) where
  abbrev from : ℕ → ℤ
  from = coordinate w.position

  touch_at : (m : Measuring) → IsTouch part w.settings from (coordinate m.nominal) m.toward (touch part w.settings from (coordinate m.nominal) m.toward)
  touch_at m = touch_is part valid w.settings from (coordinate m.nominal) m.toward rests.back

  went_true : (ms : List Mark) (after : World) → Went part w ms after → AreTrue part ms
  went_true ms after (stays at) = tt
  went_true ms after (moves q u e at) = moves_true part valid w.position q u e
  went_true ms after (halts q why e at stop) = halts_true part valid w.position q why e
  went_true ms after (touches m t e at) =
      touch_true part valid w.settings w.position (centre_of part (coordinate m.nominal) m.toward) m.toward rests.back m.feature
      (touch part w.settings from (coordinate m.nominal) m.toward) (touch_at m) t e
  went_true ms after (misses m why e at stop) =
      miss_true part valid w.settings w.position (centre_of part (coordinate m.nominal) m.toward) m.toward rests.back m.feature why
      (subst (IsTouch part w.settings from (coordinate m.nominal) m.toward) e (touch_at m))

-- ---- all steps

all_more : {A : Type 0} (P : A → Type 0) (xs ys : List A) → AllByRecursion P xs → AllByRecursion P ys → AllByRecursion P (xs ++ ys)
all_more P [] ys h k = k
all_more P (x ∷ xs) ys h k = (h.0, all_more P xs ys h.1 k)

module _ (part : Workpiece) (valid : IsValid part) (c : Code) where
  abbrev IsTrueStep : Passage → Type 0
  IsTrueStep p = AreTrue part (step_marks part p)

  abbrev after : ℕ → World
  after n = (state_after part c n).world

  next_true : (k : ℕ) → AllByRecursion IsTrueStep (passages part c k) → IsNext part valid c k → AllByRecursion IsTrueStep (passages part c (suc k))
  next_true k h (inl none) = subst (AllByRecursion IsTrueStep) (sym none.0) h
  next_true k h (inr (p, is)) =
      let went = went_true part valid (after k) (rests_always (setup_with part c) valid c.statements k) (step_marks part p) (after (suc k)) is.went in
      subst (AllByRecursion IsTrueStep) (sym is.passages_are) (all_more IsTrueStep (passages part c k) (p ∷ []) h (went, tt))

  all_true : (n : ℕ) → AllByRecursion IsTrueStep (passages part c n)
  all_true zero = tt
  all_true (suc k) = next_true k (all_true k) (next_step part valid c k)

pub are_clear : WaysAreClear
are_clear part valid c n = all_true part valid c n

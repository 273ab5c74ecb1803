-- Rooms behind one more way.
use Rattle.std.proofs.Common.{◌≡◌, ℕ, suc, ◌+◌, ◌<◌, ◌≤◌, ◌∙◌, inl, inr, Bool, true, false, cond, List, [], ◌∷◌, ◌++◌, length, Option, Some, None, refl, sym, ap, subst, arith}
use Rattle.std.specs.Prelude.{filter, is_some, map, min}
use Rattle.std.specs.List.{list_all, AllByRecursion}
use Rattle.std.proofs.Math.Nat.{min-eq_left, min-eq_right}
use Rattle.std.proofs.lemmas.Bool.{cases_lt}
use Rattle.vcm_spec.specs.declared.workpiece.Block3.{Block3}
use Rattle.vcm_spec.specs.Workpiece.{grown, is_block}
use Rattle.vcm_carried.specs.declared.contact.Contact.{Contact}
use Rattle.vcm_carried.specs.Carried.{IsBox}
use Rattle.vcm_carried.proofs.Widened.{grown_boxes}
use Rattle.vcm_way.specs.Gone.{Gone, PlacedWay}
use Rattle.vcm_clearance.specs.declared.told.Told.{Told}
use Rattle.vcm_clearance.specs.declared.room.Room.TheVariants.{Met, Clear}
use Rattle.vcm_clearance.specs.Contacts.{IsClearOn, contact_on, is_met_on, told_at, told_if, told_on}
use Rattle.vcm_clearance.specs.Rooms.{IsClearBy, met_ways, or_else, first_told, most, counted, IsRoom}
use Rattle.vcm_clearance.proofs.Answers.{none_clear, clear_none, less_clear, unmoved_clear}

-- one is counted
one_counted : 1 ≡ counted (0 + 1)
unfolding most
one_counted = refl

-- one more is counted
more_counted : (n : ℕ) → min (min n most + 1) most ≡ min (n + 1) most
more_counted n = elim (cases_lt n most) [
  | inl l ↦ ap (λ i. min (i + 1) most) (min-eq_left {n = n} {m = most} (omega (arith, l)))
  | inr l ↦ ap (λ i. min (i + 1) most) (min-eq_right {n = most} {m = n} l) ∙ min-eq_right {n = most} {m = most + 1} (omega arith) ∙ sym (min-eq_right {n = most} {m = n + 1} (omega (arith, l)))
]

pub count_more : (n c k : ℕ) → c ≡ counted n → k ≡ min (c + 1) most → k ≡ counted (n + 1)
count_more n c k e f = f ∙ ap (λ i. min (i + 1) most) e ∙ more_counted n

module _ (blocks body : List Block3) where
  -- ---- lists of ways

  pub clear_more : (g : ℕ) (ws : List PlacedWay) (p : PlacedWay) → IsClearBy blocks body ws g → IsClearOn blocks (map (grown g) body) p.way → IsClearBy blocks body (ws ++ p ∷ []) g
  clear_more g [] p h c = (c, tt)
  clear_more g (w ∷ ws) p h c = (h.0, clear_more g ws p h.1 c)

  pub clear_among : (g : ℕ) (ws : List PlacedWay) (p : PlacedWay) (vs : List PlacedWay) → IsClearBy blocks body (ws ++ p ∷ vs) g → IsClearOn blocks (map (grown g) body) p.way
  clear_among g [] p vs h = h.0
  clear_among g (w ∷ ws) p vs h = clear_among g ws p vs h.1

  pub clear_less : (g more : ℕ) (ws : List PlacedWay) → g ≤ more → IsClearBy blocks body ws more → IsClearBy blocks body ws g
  clear_less g more [] l h = tt
  clear_less g more (w ∷ ws) l h = (less_clear blocks body w.way g more l h.0, clear_less g more ws l h.1)

  pub met_yes : (ws : List PlacedWay) (p : PlacedWay) → is_met_on blocks body p.way ≡ true → met_ways blocks body (ws ++ p ∷ []) ≡ met_ways blocks body ws + 1
  met_yes [] p e = rw e refl
  met_yes (w ∷ ws) p e = by (is_met_on blocks body w.way) (met_yes ws p e)
    where
      by : (t : Bool) → met_ways blocks body (ws ++ p ∷ []) ≡ met_ways blocks body ws + 1
          → length (cond t (w ∷ filter (λ p. is_met_on blocks body p.way) (ws ++ p ∷ [])) (filter (λ p. is_met_on blocks body p.way) (ws ++ p ∷ [])))
          ≡ length (cond t (w ∷ filter (λ p. is_met_on blocks body p.way) ws) (filter (λ p. is_met_on blocks body p.way) ws)) + 1
      by true h = omega (arith, h)
      by false h = h

  pub met_no : (ws : List PlacedWay) (p : PlacedWay) → is_met_on blocks body p.way ≡ false → met_ways blocks body (ws ++ p ∷ []) ≡ met_ways blocks body ws
  met_no [] p e = rw e refl
  met_no (w ∷ ws) p e = by (is_met_on blocks body w.way) (met_no ws p e)
    where
      by : (t : Bool) → met_ways blocks body (ws ++ p ∷ []) ≡ met_ways blocks body ws
          → length (cond t (w ∷ filter (λ p. is_met_on blocks body p.way) (ws ++ p ∷ [])) (filter (λ p. is_met_on blocks body p.way) (ws ++ p ∷ [])))
          ≡ length (cond t (w ∷ filter (λ p. is_met_on blocks body p.way) ws) (filter (λ p. is_met_on blocks body p.way) ws))
      by true h = ap suc h
      by false h = h

  module _ (most : ℕ) (sides : AllByRecursion (IsBox most) body) (all : list_all is_block blocks ≡ true) where
    -- a way on which the body is clear with more is one on which it isn't met
    not_met : (g : ℕ) (w : Gone) → IsClearOn blocks (map (grown g) body) w → is_met_on blocks body w ≡ false
    not_met g w h = ap is_some (clear_none most body blocks sides all w (unmoved_clear blocks body w (less_clear blocks body w 0 g (omega arith) h)) true)

    pub met_none : (g : ℕ) (ws : List PlacedWay) → IsClearBy blocks body ws g → met_ways blocks body ws ≡ 0
    met_none g [] h = refl
    met_none g (w ∷ ws) h = rw (not_met g w.way h.0) (met_none g ws h.1)

    -- so nothing is told of it
    pub clear_told : (g : ℕ) (ws : List PlacedWay) (p : PlacedWay) (vs : List PlacedWay) → IsClearBy blocks body (ws ++ p ∷ vs) g → (is_first : Bool)
        → None ≡ told_on blocks is_first body p
    clear_told g ws p vs h is_first =
        sym (ap (told_if p) (clear_none most body blocks sides all p.way (unmoved_clear blocks body p.way (less_clear blocks body p.way 0 g (omega arith) (clear_among g ws p vs h))) is_first))

-- a body that is clear on ways has its first contact behind them
pub told_none : (size : ℕ) (blocks body : List Block3) → AllByRecursion (IsBox size) body → list_all is_block blocks ≡ true → (ws ps : List PlacedWay)
    → AllByRecursion (λ p. IsClearOn blocks body p.way) ws → first_told blocks body (ws ++ ps) ≡ first_told blocks body ps
told_none size blocks body sides all [] ps h = refl
told_none size blocks body sides all (w ∷ ws) ps h =
    ap (λ o. or_else (told_if w o) (first_told blocks body (ws ++ ps))) (clear_none size body blocks sides all w.way h.0 true) ∙ told_none size blocks body sides all ws ps h.1

-- one that has its first contact has it
told_stays : (blocks body : List Block3) (t : Told) (ws ps : List PlacedWay) → first_told blocks body ws ≡ Some t → first_told blocks body (ws ++ ps) ≡ Some t
told_stays blocks body t [] ps e = absurd (let no : None ≡ Some t = e in cc)
told_stays blocks body t (w ∷ ws) ps e = by (told_on blocks true body w) e (told_stays blocks body t ws ps)
  where
    by : (o : Option Told) → or_else o (first_told blocks body ws) ≡ Some t → (first_told blocks body ws ≡ Some t → first_told blocks body (ws ++ ps) ≡ Some t)
        → or_else o (first_told blocks body (ws ++ ps)) ≡ Some t
    by (Some s) h k = h
    by None h k = k h

-- ---- rooms

module _ (blocks body : List Block3) (sides : AllByRecursion (IsBox 10000000) body) (all : list_all is_block blocks ≡ true) (ws : List PlacedWay) where
  -- a room is at most 50 mm
  pub room_few : (g : ℕ) (m : Option Told) → IsRoom blocks body ws (Clear g m) → g ≤ 50000
  room_few g None h = omega (arith, h.0)
  room_few g (Some t) h = omega (arith, h.0)

  pub room_clear : (g : ℕ) (m : Option Told) → IsRoom blocks body ws (Clear g m) → IsClearBy blocks body ws g
  room_clear g None h = h.1
  room_clear g (Some t) h = h.1

module _ (blocks body : List Block3) (sides : AllByRecursion (IsBox 10000000) body) (all : list_all is_block blocks ≡ true) (ws : List PlacedWay) (p : PlacedWay) where
  abbrev few_of : (g : ℕ) (m : Option Told) → IsRoom blocks body ws (Clear g m) → g ≤ 50000
  few_of g m h = room_few blocks body sides all ws g m h

  abbrev clear_of : (g : ℕ) (m : Option Told) → IsRoom blocks body ws (Clear g m) → IsClearBy blocks body ws g
  clear_of g m h = room_clear blocks body sides all ws g m h

  -- a body that is met is met on this way too, or not
  pub meets_more : (c k : ℕ) → k ≡ min (c + 1) most → is_some (contact_on blocks true body p.way) ≡ true → IsRoom blocks body ws (Met c) → IsRoom blocks body (ws ++ p ∷ []) (Met k)
  meets_more c k e met h =
      let n = met_yes blocks body ws p met in
      (count_more (met_ways blocks body ws) c k h.0 e ∙ ap counted (sym n), subst (λ i. 0 < i) (sym n) (omega arith))

  pub meets_same : (c : ℕ) → is_some (contact_on blocks true body p.way) ≡ false → IsRoom blocks body ws (Met c) → IsRoom blocks body (ws ++ p ∷ []) (Met c)
  meets_same c free h = let n = met_no blocks body ws p free in (h.0 ∙ ap counted (sym n), subst (λ i. 0 < i) (sym n) h.1)

  -- one that was not met is met on this way
  pub meets_first : (g : ℕ) (m : Option Told) → is_some (contact_on blocks true body p.way) ≡ true → IsRoom blocks body ws (Clear g m) → IsRoom blocks body (ws ++ p ∷ []) (Met 1)
  meets_first g m met h =
      let none = met_none blocks body 10000000 sides all g ws (clear_of g m h) in
      let n = met_yes blocks body ws p met ∙ ap (λ i. i + 1) none in
      (one_counted ∙ ap counted (sym n), subst (λ i. 0 < i) (sym n) (omega arith))

  -- it has as much room
  pub clear_same : (g : ℕ) (m : Option Told) → contact_on blocks true (map (grown g) body) p.way ≡ None → IsRoom blocks body ws (Clear g m) → IsRoom blocks body (ws ++ p ∷ []) (Clear g m)
  clear_same g None free h =
      (h.0, clear_more blocks body g ws p h.1 (none_clear 10050000 (map (grown g) body) blocks (grown_boxes g body (few_of g None h) sides) all p.way free))
  clear_same g (Some t) free h = (
    h.0,
    clear_more blocks body g ws p h.1 (none_clear 10050000 (map (grown g) body) blocks (grown_boxes g body (few_of g (Some t) h) sides) all p.way free),
    told_stays blocks (map (grown (g + 1)) body) t ws (p ∷ []) h.2,
  )

  -- it has less
  pub clear_now : (g less : ℕ) (m : Option Told) (c : Contact) → less < g → contact_on blocks true (map (grown less) body) p.way ≡ None → contact_on blocks true (map (grown (less + 1)) body) p.way ≡ Some c
      → IsRoom blocks body ws (Clear g m) → IsRoom blocks body (ws ++ p ∷ []) (Clear less (Some (told_at p c)))
  clear_now g less m c l free met h =
      let few = few_of g m h in
      let clear = clear_of g m h in (
        omega (arith, l, few),
        clear_more blocks body less ws p (clear_less blocks body less g ws (omega (arith, l)) clear)
            (none_clear 10050000 (map (grown less) body) blocks (grown_boxes less body (omega (arith, l, few)) sides) all p.way free),
        told_none 10050000 blocks (map (grown (less + 1)) body) (grown_boxes (less + 1) body (omega (arith, l, few)) sides) all ws (p ∷ []) (clear_less blocks body (less + 1) g ws (omega (arith, l)) clear)
            ∙ ap (λ o. or_else (told_if p o) None) met,
      )

-- What is kept of narrowest places.
use Rattle.std.proofs.Common.{◌≡◌, ◌⊎◌, ℕ, zero, suc, ◌+◌, ◌<◌, ◌≤◌, ◌∙◌, ℤ, Bool, true, false, List, [], ◌∷◌, ◌++◌, length, slice_get, slice_set, Option, Some, None, refl, sym, ap, subst, inl, inr, arith}
use Rattle.std.specs.Prelude.{map, replicate, pos, cond, ◌==◌, ◌&&◌}
use Rattle.std.specs.List.{list_all, AllByRecursion}
use Rattle.std.proofs.lemmas.Bool.{cases_lt}
use Rattle.std.proofs.lemmas.List.{length-set}
use Rattle.vcm_spec.specs.declared.workpiece.Block3.{Block3}
use Rattle.vcm_spec.specs.Workpiece.{grown, is_block}
use Rattle.vcm_spec.specs.Setup.{Tables}
use Rattle.vcm_code.specs.Code.{CodeStatement}
use Rattle.vcm_carried.specs.declared.contact.Contact.{Contact}
use Rattle.vcm_carried.specs.Carried.{IsBox}
use Rattle.vcm_carried.proofs.Widened.{grown_boxes}
use Rattle.vcm_way.specs.declared.gone.Gone.{Gone as Went}
use Rattle.vcm_way.specs.Gone.{PlacedWay}
use Rattle.vcm_naming.specs.Naming.{Line, plain}
use Rattle.vcm_boxes.specs.declared.boxes.ProbeBox.{ProbeBox}
use Rattle.vcm_marks.specs.declared.mark.Moment.{Moment}
use Rattle.vcm_backtrace.specs.Sources.{Sourced}
use Rattle.vcm_backtrace.specs.Standing.{Past, put_over, nothing_kept, kept_over}
use Rattle.vcm_backtrace.specs.Backtrace.{backtrace_lines}
use Rattle.vcm_backtrace.proofs.Putting.{put_over_all, put_over_length}
use Rattle.vcm_clearance.specs.declared.told.Told.{Told}
use Rattle.vcm_clearance.specs.declared.room.Room.{Room}
use Rattle.vcm_clearance.specs.declared.room.Room.TheVariants.{Met, Clear}
use Rattle.vcm_clearance.specs.declared.here.Here.{Here}
use Rattle.vcm_clearance.specs.Contacts.{contact_on, told_on, told_at, told_if, IsPlaced}
use Rattle.vcm_clearance.specs.Rooms.{or_else, first_told, IsClearBy, IsRoom}
use Rattle.vcm_clearance.specs.Printed.{Backtraces, box_lines, narrow_line, boxes_lines}
use Rattle.vcm_clearance.specs.inner.Here.{here_text, past_text, is_narrowed, kept_there, kept_on, IsKept, AreKept, kept_lines}
use Rattle.vcm_clearance.specs.inner.Following.{IsKeptOn, opening, opening_kept}
use Rattle.vcm_clearance.proofs.Roominess.{room_clear, room_few, clear_less, met_none}
use Rattle.vcm_clearance.proofs.Single.{none_told}

-- ---- where a room is narrowest behind one more way

first_more : (blocks body : List Block3) (ws : List PlacedWay) (p : PlacedWay) → first_told blocks body (ws ++ p ∷ []) ≡ or_else (first_told blocks body ws) (told_on blocks true body p)
first_more blocks body [] p = or_none (told_on blocks true body p)
  where
    or_none : (o : Option Told) → or_else o None ≡ o
    or_none None = refl
    or_none (Some t) = refl
first_more blocks body (w ∷ ws) p = by (first_more blocks body ws p) (told_on blocks true body w)
  where
    by : first_told blocks body (ws ++ p ∷ []) ≡ or_else (first_told blocks body ws) (told_on blocks true body p) → (o : Option Told)
        → or_else o (first_told blocks body (ws ++ p ∷ [])) ≡ or_else (or_else o (first_told blocks body ws)) (told_on blocks true body p)
    by h None = h
    by h (Some t) = refl

-- what is told on a way is of its step
told_there : (p : PlacedWay) (o : Option Contact) (t : Told) → told_if p o ≡ Some t → (t.step ≡ p.step) × (t.number ≡ p.number)
told_there p None t e = absurd (let no : None ≡ Some t = e in cc)
told_there p (Some c) t e = (let same : told_at p c ≡ t = (let s : Some (told_at p c) ≡ Some t = e in cc) in (ap (λ u. u.step) (sym same), ap (λ u. u.number) (sym same)))

module _ (body blocks : List Block3) (sides : AllByRecursion (IsBox 10000000) body) (all : list_all is_block blocks ≡ true) (ws : List PlacedWay) (p : PlacedWay) where
  -- where it was before, or on this way
  abbrev IsThere : Room → Told → Type 0
  IsThere old t = ((g : ℕ) × (old ≡ Clear g (Some t))) ⊎ ((t.step ≡ p.step) × (t.number ≡ p.number))

  module _ (g : ℕ) (t : Told) (now : IsRoom blocks body (ws ++ p ∷ []) (Clear g (Some t))) where
    first_now : or_else (first_told blocks (map (grown (g + 1)) body) ws) (told_on blocks true (map (grown (g + 1)) body) p) ≡ Some t
    first_now = sym (first_more blocks (map (grown (g + 1)) body) ws p) ∙ now.2

    by_first : (o : Option Told) → first_told blocks (map (grown (g + 1)) body) ws ≡ o → or_else o (told_on blocks true (map (grown (g + 1)) body) p) ≡ Some t
        → (first_told blocks (map (grown (g + 1)) body) ws ≡ Some t) ⊎ ((t.step ≡ p.step) × (t.number ≡ p.number))
    by_first (Some u) e f = inl (e ∙ f)
    by_first None e f = inr (told_there p (contact_on blocks true (map (grown (g + 1)) body) p.way) t f)

  -- what is clear on these ways is so on the first of them
  clear_front : (g : ℕ) (vs : List PlacedWay) → IsClearBy blocks body (vs ++ p ∷ []) g → IsClearBy blocks body vs g
  clear_front g [] h = tt
  clear_front g (v ∷ vs) h = (h.0, clear_front g vs h.1)

  module _ (g : ℕ) (t : Told) (now : IsRoom blocks body (ws ++ p ∷ []) (Clear g (Some t))) (first : first_told blocks (map (grown (g + 1)) body) ws ≡ Some t) where
    clear_now : IsClearBy blocks body ws g
    clear_now = clear_front g ws now.1

    -- nothing is told where the body is clear by so much
    none_at : (k more : ℕ) (u : Told) → k < more → more ≤ 50000 → IsClearBy blocks body ws more → first_told blocks (map (grown (k + 1)) body) ws ≡ Some u → ⊥
    none_at k more u l few clear e =
        let less = clear_less blocks body (k + 1) more ws (omega (arith, l)) clear in
        let none = none_told 10050000 blocks (map (grown (k + 1)) body) (grown_boxes (k + 1) body (omega (arith, l, few)) sides) all ws less in
        absurd (let no : None ≡ Some u = sym none ∙ e in cc)

    not_wider : (k : ℕ) (m : Option Told) → IsRoom blocks body ws (Clear k m) → g < k → ⊥
    not_wider k m h l = none_at g k t l (room_few blocks body sides all ws k m h) (room_clear blocks body sides all ws k m h) first

    same_there : (k : ℕ) (m : Option Told) → IsRoom blocks body ws (Clear k m) → (j : ℕ) × (Clear k m ≡ Clear j (Some t))
    same_there k None h = absurd (not_wider k None h (let most = now.0 in let is = h.0 in omega (arith, most, is)))
    same_there k (Some u) h = elim (cases_lt g k) [
      | inl l ↦ absurd (not_wider k (Some u) h l)
      | inr l ↦ elim (cases_lt k g) [
        | inl o ↦ absurd (none_at k g u o (let most = now.0 in omega (arith, most)) clear_now h.2)
        | inr o ↦ (let e : k ≡ g = omega (arith, l, o) in
            let same : Some u ≡ Some t = sym h.2 ∙ ap (λ i. first_told blocks (map (grown (i + 1)) body) ws) e ∙ first in
            (k, ap (Clear k) same))
      ]
    ]

    stays_first : (r : Room) → IsRoom blocks body ws r → (j : ℕ) × (r ≡ Clear j (Some t))
    stays_first (Met k) h =
        let none = met_none blocks body 10000000 sides all g ws clear_now in
        let some = h.1 in
        absurd (omega (arith, none, some))
    stays_first (Clear k m) h = same_there k m h

  pub stays : (r : Room) → IsRoom blocks body ws r → (g : ℕ) (t : Told) → IsRoom blocks body (ws ++ p ∷ []) (Clear g (Some t)) → IsThere r t
  stays r h g t now = elim (by_first g t now (first_told blocks (map (grown (g + 1)) body) ws) refl (first_now g t now)) [
    | inl first ↦ inl (stays_first g t now first r h)
    | inr there ↦ inr there
  ]

-- ---- lists in which one is set

set_there : {A : Type 0} (xs : List A) (n : ℕ) (v r : A) → slice_get (slice_set xs n v) n ≡ Some r → r ≡ v
set_there [] n v r e = absurd (let no : None ≡ Some r = e in cc)
set_there (x ∷ xs) zero v r e = (let same : Some v ≡ Some r = e in cc)
set_there (x ∷ xs) (suc n) v r e = set_there xs n v r e

set_elsewhere : {A : Type 0} (xs : List A) (n i : ℕ) (v : A) → (i ≡ n → ⊥) → slice_get (slice_set xs n v) i ≡ slice_get xs i
set_elsewhere [] n i v h = refl
set_elsewhere (x ∷ xs) zero zero v h = absurd (h refl)
set_elsewhere (x ∷ xs) zero (suc i) v h = refl
set_elsewhere (x ∷ xs) (suc n) zero v h = refl
set_elsewhere (x ∷ xs) (suc n) (suc i) v h = set_elsewhere xs n i v (λ e. h (ap suc e))

is_it : (i n : ℕ) → (i ≡ n) ⊎ (i ≡ n → ⊥)
is_it i n = elim (cases_lt i n) [
  | inl l ↦ inr (λ e. absurd (omega (arith, l, e)))
  | inr l ↦ elim (cases_lt n i) [ inl o ↦ inr (λ e. absurd (omega (arith, o, e))) | inr o ↦ inl (omega (arith, l, o)) ]
]

both : (a b c d : ℕ) → a ≡ b → c ≡ d → ((a == b) && (c == d)) ≡ true
both a b c d e f = grind (arith, e, f)

of_both : (a b c d : ℕ) → ((a == b) && (c == d)) ≡ true → (a ≡ b) × (c ≡ d)
of_both a b c d h = (grind (arith, h), grind (arith, h))

-- ---- one more way

module _ (from : Backtraces) (h : Here) (e : from h.place.step h.place.number ≡ here_text h) where
  abbrev by : Past → ℕ → List ℕ
  by = past_text h.source.now h.loaded.now.statements h.standing.tables.now

  abbrev variables : ℕ
  variables = length h.standing.variables.now

  abbrev left : Past → Past
  left k = kept_over k h.standing.variables.now h.standing.rounds.now

  -- what is kept of this step tells the backtrace of its statement
  left_tells : (k : Past) → length k.variables ≡ variables → (t : Told) → t.step ≡ h.place.step → t.number ≡ h.place.number → by (left k) t.number ≡ from t.step t.number
  left_tells k fit t s n =
      ap (λ vs. backtrace_lines h.source.now h.loaded.now.statements h.standing.tables.now vs h.standing.rounds.now t.number) (put_over_all k.variables h.standing.variables.now fit)
      ∙ ap (backtrace_lines h.source.now h.loaded.now.statements h.standing.tables.now h.standing.variables.now h.standing.rounds.now) n
      ∙ sym e ∙ sym (ap (λ i. from i h.place.number) s) ∙ sym (ap (from t.step) n)

  narrowed_is : (r : Room) (k : Past) → length k.variables ≡ variables → is_narrowed r h.place ≡ true → IsKept from by r (left k)
  narrowed_is (Met c) k fit n = tt
  narrowed_is (Clear g None) k fit n = tt
  narrowed_is (Clear g (Some t)) k fit n =
      let same = of_both t.step h.place.step t.number h.place.number n in
      left_tells k fit t same.0 same.1

  module _ (body blocks : List Block3) (sides : AllByRecursion (IsBox 10000000) body) (all : list_all is_block blocks ≡ true) (ws : List PlacedWay) (p : PlacedWay)
      (step : p.step ≡ h.place.step) (number : p.number ≡ h.place.number) (n : ℕ) (rooms : List Room) (kept : List Past) (at : AreKept from by variables rooms kept)
      (r0 : Room) (stands : slice_get rooms n ≡ Some r0) (before : IsRoom blocks body ws r0) where
    other_is : (r : Room) (k : Past) → slice_get kept n ≡ Some k → IsRoom blocks body (ws ++ p ∷ []) r → is_narrowed r h.place ≡ false → IsKept from by r k
    other_is (Met c) k there now away = tt
    other_is (Clear g None) k there now away = tt
    other_is (Clear g (Some t)) k there now away = elim (stays body blocks sides all ws p r0 before g t now) [
      | inl was ↦ subst (λ r. IsKept from by r k) was.1 (at.each n r0 k stands there)
      | inr here ↦ absurd (let it_is = both t.step h.place.step t.number h.place.number (here.0 ∙ step) (here.1 ∙ number) in let not : true ≡ false = sym it_is ∙ away in cc)
    ]

    module _ (r : Room) (now : IsRoom blocks body (ws ++ p ∷ []) r) where
      -- it stays
      kept_still : is_narrowed r h.place ≡ false → AreKept from by variables (slice_set rooms n r) kept
      kept_still away = record {
        count = at.count ∙ sym (length-set rooms n r);
        fit = at.fit;
        each = λ i s k room there. elim (is_it i n) [
          | inl is ↦ (let same : s ≡ r = set_there rooms n r s (subst (λ j. slice_get (slice_set rooms n r) j ≡ Some s) is room) in
              subst (λ x. IsKept from by x k) (sym same) (other_is r k (subst (λ j. slice_get kept j ≡ Some k) is there) now away))
          | inr not ↦ at.each i s k (sym (set_elsewhere rooms n i r not) ∙ room) there
        ];
      }

      -- this step is kept in its place
      kept_now : is_narrowed r h.place ≡ true → (o : Option Past) → slice_get kept n ≡ o → AreKept from by variables (slice_set rooms n r) (kept_there kept n h o)
      kept_now near None none = record {
        count = at.count ∙ sym (length-set rooms n r);
        fit = at.fit;
        each = λ i s k room there. elim (is_it i n) [
          | inl is ↦ absurd (let none_is : None ≡ Some k = sym none ∙ subst (λ j. slice_get kept j ≡ Some k) is there in cc)
          | inr not ↦ at.each i s k (sym (set_elsewhere rooms n i r not) ∙ room) there
        ];
      }
      kept_now near (Some k0) some =
          let fits : length k0.variables ≡ variables = at.fit n k0 some in
          record {
            count = length-set kept n (left k0) ∙ at.count ∙ sym (length-set rooms n r);
            fit = λ i k there. elim (is_it i n) [
              | inl is ↦ (let same : k ≡ left k0 = set_there kept n (left k0) k (subst (λ j. slice_get (slice_set kept n (left k0)) j ≡ Some k) is there) in
                  ap (λ (x : Past). length x.variables) same ∙ put_over_length k0.variables 0 h.standing.variables.now ∙ fits)
              | inr not ↦ at.fit i k (sym (set_elsewhere kept n i (left k0) not) ∙ there)
            ];
            each = λ i s k room there. elim (is_it i n) [
              | inl is ↦ (let same : s ≡ r = set_there rooms n r s (subst (λ j. slice_get (slice_set rooms n r) j ≡ Some s) is room) in
                  let own : k ≡ left k0 = set_there kept n (left k0) k (subst (λ j. slice_get (slice_set kept n (left k0)) j ≡ Some k) is there) in
                  subst (λ x. IsKept from by x k) (sym same) (subst (IsKept from by r) (sym own) (narrowed_is r k0 fits near)))
              | inr not ↦ at.each i s k (sym (set_elsewhere rooms n i r not) ∙ room) (sym (set_elsewhere kept n i (left k0) not) ∙ there)
            ];
          }

      kept_either : (b : Bool) → is_narrowed r h.place ≡ b → AreKept from by variables (slice_set rooms n r) (cond b (kept_there kept n h (slice_get kept n)) kept)
      kept_either true near = kept_now near (slice_get kept n) refl
      kept_either false away = kept_still away

-- behind one more way of a step, on which a box has this room
pub kept_next : (body blocks : List Block3) → AllByRecursion (IsBox 10000000) body → list_all is_block blocks ≡ true → (ws : List PlacedWay) (p : PlacedWay) (h : Here) {v : Went}
    → IsPlaced h.place v p → (n : ℕ) (rooms : List Room) (kept : List Past) (r0 r : Room) → slice_get rooms n ≡ Some r0 → IsRoom blocks body ws r0 → IsRoom blocks body (ws ++ p ∷ []) r
    → (start : List Room) (old : List Past) → IsKeptOn h start old rooms kept → IsKeptOn h start old (slice_set rooms n r) (kept_on kept n r h)
kept_next body blocks sides all ws p h placed n rooms kept r0 r stands before now start old so_far from e at =
    kept_either from h e body blocks sides all ws p placed.step placed.number n rooms kept (so_far from e at) r0 stands before r now (is_narrowed r h.place) refl

-- ---- the lines of narrowest places

-- where the same is told by what is kept, the lines are the same
pub lines_kept : (from : Backtraces) (by : Past → ℕ → List ℕ) (n : ℕ) (boxes : List ProbeBox) (rooms : List Room) (kept : List Past) → AreKept from by n rooms kept
    → kept_lines by boxes rooms kept ≡ boxes_lines from boxes rooms
lines_kept from by n [] rooms kept h = refl
lines_kept from by n (b ∷ bs) [] kept h = refl
lines_kept from by n (b ∷ bs) (r ∷ rs) [] h = absurd (let c = h.count in omega (arith, c))
lines_kept from by n (b ∷ bs) (r ∷ rs) (k ∷ ks) h =
    ap (λ l. l ++ kept_lines by bs rs ks) (box_is r (h.each 0 r k refl refl))
    ∙ ap (λ l. box_lines (λ t. from t.step t.number) b.name r ++ l) (lines_kept from by n bs rs ks (record {
      count = (let c = h.count in omega (arith, c));
      fit = λ i k there. h.fit (suc i) k there;
      each = λ i r k room there. h.each (suc i) r k room there;
    }))
  where
    box_is : (s : Room) → IsKept from by s k → box_lines (λ t. by k t.number) b.name s ≡ box_lines (λ t. from t.step t.number) b.name s
    box_is (Met c) e = refl
    box_is (Clear g None) e = refl
    box_is (Clear g (Some t)) e = ap (λ x. box_lines (λ u. x) b.name (Clear g (Some t))) e

-- ---- before the first way

zeros : (n : ℕ) → length (replicate n (pos 0)) ≡ n
zeros zero = refl
zeros (suc n) = ap suc (zeros n)

-- nothing is kept, and nowhere it is narrowest
pub opened_kept : (from : Backtraces) (by : Past → ℕ → List ℕ) (n : ℕ) (boxes : List ProbeBox) → AreKept from by n (opening boxes) (opening_kept n boxes)
opened_kept from by n boxes = record { count = as_many boxes; fit = fits boxes; each = tells boxes }
  where
    as_many : (bs : List ProbeBox) → length (opening_kept n bs) ≡ length (opening bs)
    as_many [] = refl
    as_many (b ∷ bs) = ap suc (as_many bs)

    fits : (bs : List ProbeBox) (i : ℕ) (k : Past) → slice_get (opening_kept n bs) i ≡ Some k → length k.variables ≡ n
    fits [] i k e = absurd (let no : None ≡ Some k = e in cc)
    fits (b ∷ bs) zero k e =
        let same : nothing_kept n ≡ k = (let s : Some (nothing_kept n) ≡ Some k = e in cc) in
        ap (λ (x : Past). length x.variables) (sym same) ∙ zeros n
    fits (b ∷ bs) (suc i) k e = fits bs i k e

    tells : (bs : List ProbeBox) (i : ℕ) (r : Room) (k : Past) → slice_get (opening bs) i ≡ Some r → slice_get (opening_kept n bs) i ≡ Some k → IsKept from by r k
    tells [] i r k e f = absurd (let no : None ≡ Some k = f in cc)
    tells (b ∷ bs) zero r k e f =
        let same : Clear 50000 None ≡ r = (let s : Some (Clear 50000 None) ≡ Some r = e in cc) in
        subst (λ x. IsKept from by x k) same tt
    tells (b ∷ bs) (suc i) r k e f = tells bs i r k e f

-- Boxes that are tried on one way, and on the ways of a step.
use Rattle.std.proofs.Common.{◌≡◌, ℕ, zero, suc, ◌+◌, ◌≤◌, ◌∙◌, Bool, false, List, [], ◌∷◌, ◌++◌, length, take, drop, slice_get, slice_set, Option, Some, None}
use Rattle.std.proofs.Common.{Result, Ok, Err, refl, sym, ap, subst, inl, inr, arith, append_assoc}
use Rattle.std.specs.Prelude.{flat_map, min, ◌==◌, option_to_list, IfOk, IfErr}
use Rattle.std.proofs.Math.Nat.{le-min, min-eq_left}
use Rattle.std.proofs.Math.Seq.{take-suc}
use Rattle.std.proofs.lemmas.Bool.{cases_lt}
use Rattle.std.proofs.lemmas.Grind.{flat_map-append}
use Rattle.std.proofs.lemmas.List.{append-nil, flat_map_more, length-set, length-append, take_all, take-append-drop}
use Rattle.std.proofs.lemmas.Option.{slice_get_within, get_or_from_slice_get}
use Rattle.vcm_naming.specs.Naming.{Line}
use Rattle.vcm_naming.specs.Pages.{Page, Adds, AddsFront}
use Rattle.vcm_naming.proofs.Pages.{adds_nothing, adds_more, adds_front_first, adds_front_then}
use Rattle.vcm_spec.specs.declared.workpiece.Block3.{Block3}
use Rattle.vcm_spec.specs.Workpiece.{Workpiece}
use Rattle.vcm_boxes.specs.declared.boxes.ProbeBox.{ProbeBox}
use Rattle.vcm_way.specs.declared.gone.Gone.{Gone as Went}
use Rattle.vcm_way.specs.Gone.{Gone, PlacedWay, first_way, ways_in, placed_at}
use Rattle.vcm_way.specs.Seen.{IsSameWay, IsSameIfAny, seen}
use Rattle.vcm_marks.specs.declared.mark.Mark.{Mark}
use Rattle.vcm_marks.specs.declared.mark.Moment.{Moment}
use Rattle.vcm_clearance.specs.declared.told.Told.{Told}
use Rattle.vcm_clearance.specs.declared.room.Room.{Room}
use Rattle.vcm_clearance.specs.declared.room.Room.TheVariants.{Clear}
use Rattle.vcm_clearance.specs.Contacts.{told_on, IsPlaced}
use Rattle.vcm_clearance.specs.Rooms.{most, counted, IsRoom, AreRooms}
use Rattle.vcm_backtrace.specs.Standing.{Past}
use Rattle.vcm_clearance.specs.declared.here.Here.{Here}
use Rattle.vcm_clearance.specs.Printed.{contact_line, way_lines, run_lines}
use Rattle.vcm_clearance.specs.inner.Here.{here_text}
use Rattle.vcm_clearance.specs.inner.Following.{AreTried, IsDone, AreAdded, AreCut, IsKeptOn, is_empty, opening}
use Rattle.vcm_clearance.proofs.Roominess.{count_more}

-- ---- a box as a body of its own

module _ (blocks body : List Block3) (box : Block3) (e : body ≡ box ∷ []) where
  pub to_body : (ws : List PlacedWay) (r : Room) → IsRoom blocks (box ∷ []) ws r → IsRoom blocks body ws r
  to_body ws r h = subst (λ (own : List Block3). IsRoom blocks own ws r) (sym e) h

  pub of_body : (ws : List PlacedWay) (r : Room) → IsRoom blocks body ws r → IsRoom blocks (box ∷ []) ws r
  of_body ws r h = subst (λ (own : List Block3). IsRoom blocks own ws r) e h

  pub told_of_body : (is_first : Bool) (p : PlacedWay) (told : Option Told) → told ≡ told_on blocks is_first body p → told ≡ told_on blocks is_first (box ∷ []) p
  told_of_body is_first p told t = t ∙ ap (λ (own : List Block3). told_on blocks is_first own p) e

-- ---- a room that is set

set_there : (xs : List Room) (n : ℕ) (v r : Room) → slice_get (slice_set xs n v) n ≡ Some r → r ≡ v
set_there [] n v r e = absurd (let no : None ≡ Some r = e in cc)
set_there (x ∷ xs) zero v r e = (let same : Some v ≡ Some r = e in cc)
set_there (x ∷ xs) (suc n) v r e = set_there xs n v r e

set_elsewhere : (xs : List Room) (n i : ℕ) (v : Room) → (i ≡ n → ⊥) → slice_get (slice_set xs n v) i ≡ slice_get xs i
set_elsewhere [] n i v h = refl
set_elsewhere (x ∷ xs) zero zero v h = absurd (h refl)
set_elsewhere (x ∷ xs) zero (suc i) v h = refl
set_elsewhere (x ∷ xs) (suc n) zero v h = refl
set_elsewhere (x ∷ xs) (suc n) (suc i) v h = set_elsewhere xs n i v (λ e. h (ap suc e))

-- ---- one way

module _ (backtrace : List ℕ) (blocks : List Block3) (boxes : List ProbeBox) (is_first : Bool) (ws : List PlacedWay) (p : PlacedWay) where
  abbrev line : ProbeBox → List Line
  line b = contact_line b.name (told_on blocks is_first (b.block ∷ []) p) backtrace

  pub begun : (rooms : List Room) (old : Page) → AreRooms blocks boxes ws rooms → AreTried backtrace blocks boxes is_first ws p 0 rooms old old
  begun rooms old h = record {
    count = h.count;
    before = λ i b r l at stands. h.each i b r at stands;
    behind = λ i b r l. absurd (omega arith);
    written = adds_nothing old;
  }

  module _ (n : ℕ) (rooms : List Room) (old mid : Page) (h : AreTried backtrace blocks boxes is_first ws p n rooms old mid) (b : ProbeBox) (at : slice_get boxes n ≡ Some b) where
    -- its room is that before the way
    pub room_before : (r : Room) → slice_get rooms n ≡ Some r → IsRoom blocks (b.block ∷ []) ws r
    room_before r stands = h.before n b r (omega arith) at stands

    front_is : flat_map line (take n boxes) ++ line b ≡ flat_map line (take (n + 1) boxes)
    front_is =
        let within = slice_get_within boxes n b at in
        let more : take (suc n) boxes ≡ take n boxes ++ b ∷ [] = take-suc boxes n b within ∙ ap (λ x. take n boxes ++ x ∷ []) (get_or_from_slice_get boxes n b b at) in
        flat_map_more line [] (take n boxes) b ∙ ap (flat_map line) (sym more) ∙ ap (λ k. flat_map line (take k boxes)) (let e : suc n ≡ n + 1 = omega arith in e)

    -- one more is tried
    pub next : (r : Room) → IsRoom blocks (b.block ∷ []) (ws ++ p ∷ []) r → (new : Page) → Adds mid new (line b)
        → AreTried backtrace blocks boxes is_first ws p (n + 1) (slice_set rooms n r) old new
    next r room new w = record {
      count = length-set rooms n r ∙ h.count;
      before = λ i c s l there stands. h.before i c s (omega arith) there (sym (set_elsewhere rooms n i r (λ e. absurd (omega (arith, e, l)))) ∙ stands);
      behind = λ i c s l there stands. elim (cases_lt i n) [
        | inl less ↦ h.behind i c s less there (sym (set_elsewhere rooms n i r (λ e. absurd (omega (arith, e, less)))) ∙ stands)
        | inr past ↦ (let e : i ≡ n = omega arith in
            let same : s ≡ r = set_there rooms n r s (subst (λ k. slice_get (slice_set rooms n r) k ≡ Some s) e stands) in
            let own : Some b ≡ Some c = sym at ∙ subst (λ k. slice_get boxes k ≡ Some c) e there in
            let box : b ≡ c = cc in
            subst (λ (x : ProbeBox). IsRoom blocks (x.block ∷ []) (ws ++ p ∷ []) s) box (subst (IsRoom blocks (b.block ∷ []) (ws ++ p ∷ [])) (sym same) room))
      ];
      written = adds_more old mid new _ _ _ front_is h.written w;
    }

    -- its line could not be written
    pub cut : (new : Page) → AddsFront mid new (line b) → AddsFront old new (way_lines backtrace blocks boxes is_first p)
    cut new f =
        let rest = flat_map line (drop (n + 1) boxes) in
        let all : flat_map line (take (n + 1) boxes) ++ rest ≡ flat_map line boxes =
        sym (flat_map-append line (take (n + 1) boxes) (drop (n + 1) boxes)) ∙ ap (flat_map line) (take-append-drop (n + 1) boxes) in
        adds_front_first old new (flat_map line (take (n + 1) boxes)) rest _ all (adds_front_then old mid new _ _ _ front_is h.written f)

  -- all are tried
  pub ended : (n : ℕ) (rooms : List Room) (old new : Page) → AreTried backtrace blocks boxes is_first ws p n rooms old new → length boxes ≤ n
      → AreRooms blocks boxes (ws ++ p ∷ []) rooms × Adds old new (way_lines backtrace blocks boxes is_first p)
  ended n rooms old new h all = (
    record { count = h.count; each = λ i b r at stands. h.behind i b r (let l = slice_get_within boxes i b at in omega (arith, l, all)) at stands },
    subst (Adds old new) (ap (flat_map line) (take_all n boxes all)) h.written,
  )

-- ---- the ways of a step

first_is : (n count : ℕ) → count ≡ counted (suc n) → (count == 0) ≡ false
unfolding most
first_is n count e =
    let some : 1 ≤ count = subst (λ k. 1 ≤ k) (sym e) (le-min {k = 1} {a = suc n} {b = most} (omega arith) (omega arith)) in
    grind (arith, some)

-- the first way of a run is that behind none
pub is_first_way : (ws : List PlacedWay) (count : ℕ) → count ≡ counted (length ws) → (count == 0) ≡ is_empty ws
is_first_way [] count e = (let none : count ≡ 0 = e ∙ min-eq_left {n = 0} {m = most} (omega arith) in rw none refl)
is_first_way (w ∷ ws) count e = first_is (length ws) count e

not_empty : (ws : List PlacedWay) (p : PlacedWay) → is_empty (ws ++ p ∷ []) ≡ false
not_empty [] p = refl
not_empty (w ∷ ws) p = refl

-- the way that the code finds of the first mark is the first way
pub first_of : (part : Workpiece) (ms behind : List Mark) (m : Mark) → ms ≡ m ∷ behind → (v : Went) → IsSameIfAny (Some v) (first_way part ms) → (P : List Gone → Type 0)
    → ((w : Gone) → IsSameWay (seen v) w → P (w ∷ ways_in part behind)) → P (ways_in part ms)
first_of part ms behind m e v found P h =
    subst (λ l. P (ways_in part l)) (sym e) (by (first_way part (m ∷ behind)) (subst (λ l. IsSameIfAny (Some v) (first_way part l)) e found))
  where
    by : (o : Option Gone) → IsSameIfAny (Some v) o → P (option_to_list o ++ ways_in part behind)
    by None same = absurd same
    by (Some w) same = h w same

-- where the code finds none, there is none
pub none_of : (part : Workpiece) (ms behind : List Mark) (m : Mark) → ms ≡ m ∷ behind → IsSameIfAny None (first_way part ms) → ways_in part ms ≡ ways_in part behind
none_of part ms behind m e found = ap (ways_in part) e ∙ by (first_way part (m ∷ behind)) (subst (λ l. IsSameIfAny None (first_way part l)) e found)
  where
    by : (o : Option Gone) → IsSameIfAny None o → option_to_list o ++ ways_in part behind ≡ ways_in part behind
    by None same = refl
    by (Some w) same = absurd same

module _ (blocks : List Block3) (boxes : List ProbeBox) (h : Here) where
  abbrev place : Moment
  place = h.place

  pub no_way : (rooms : List Room) (kept : List Past) (count : ℕ) (old : Page) → AreAdded h blocks boxes [] rooms kept count old rooms kept count old
  no_way rooms kept count old ws d = (subst (λ l. IsDone blocks boxes l rooms count) (sym (append-nil ws)) d, λ from e. adds_nothing old, λ from e k. k)

  -- one more way was tried, and is counted
  pub one_done : (ws : List PlacedWay) (p : PlacedWay) (rooms : List Room) (count sum : ℕ) → count ≡ counted (length ws) → sum ≡ min (count + 1) most
      → AreRooms blocks boxes (ws ++ p ∷ []) rooms → IsDone blocks boxes (ws ++ p ∷ []) rooms sum
  one_done ws p rooms count sum e f h = record {
    are_rooms = h;
    counted_is = count_more (length ws) count sum e f ∙ ap counted (sym (length-append ws (p ∷ [])));
  }

  module _ (v : Went) (w : Gone) (same : IsSameWay (seen v) w) (gs : List Gone) (count : ℕ) (is_first : Bool) (f : is_first ≡ (count == 0)) where
    abbrev p : PlacedWay
    p = record { way = w; step = place.step; number = place.number; line = place.line }

    placed : IsPlaced place v p
    placed = record { way = same; step = refl; number = refl; line = refl }

    flag : (ws : List PlacedWay) → count ≡ counted (length ws) → is_first ≡ is_empty ws
    flag ws e = f ∙ is_first_way ws count e

    -- a line of the first could not be written
    pub cut_first : (start : List Room) (old new : Page)
        → ((ws : List PlacedWay) (p : PlacedWay) → IsPlaced place v p → AreRooms blocks boxes ws start → AddsFront old new (way_lines (here_text h) blocks boxes is_first p))
        → AreCut h blocks boxes (w ∷ gs) start count old new
    cut_first start old new one ws d from e =
        adds_front_first old new (way_lines (from place.step place.number) blocks boxes (is_empty ws) p) (run_lines from blocks boxes false (placed_at place gs)) _ refl
        (subst (λ b. AddsFront old new (way_lines (from place.step place.number) blocks boxes b p)) (flag ws d.counted_is)
        (subst (λ t. AddsFront old new (way_lines t blocks boxes is_first p)) (sym e) (one ws p placed d.are_rooms)))

    module _ (start first : List Room) (kept held : List Past) (sum : ℕ) (old mid new : Page) (s : sum ≡ min (count + 1) most)
        (one : (ws : List PlacedWay) (p : PlacedWay) → IsPlaced place v p → AreRooms blocks boxes ws start
        → AreRooms blocks boxes (ws ++ p ∷ []) first × Adds old mid (way_lines (here_text h) blocks boxes is_first p) × IsKeptOn h start kept first held) where
      -- the first way, and those behind it
      pub more_ways : (last : List Room) (left : List Past) (total : ℕ) → AreAdded h blocks boxes gs first held sum mid last left total new
          → AreAdded h blocks boxes (w ∷ gs) start kept count old last left total new
      more_ways last left total rest ws d =
          let here = one ws p placed d.are_rooms in
          let there = rest (ws ++ p ∷ []) (one_done ws p first count sum d.counted_is s here.0) in (
            subst (λ l. IsDone blocks boxes l last total) (append_assoc ws (p ∷ []) (placed_at place gs)) there.0,
            λ from e. adds_more old mid new (way_lines (from place.step place.number) blocks boxes (is_empty ws) p) (run_lines from blocks boxes false (placed_at place gs)) _ refl
                (subst (λ b. Adds old mid (way_lines (from place.step place.number) blocks boxes b p)) (flag ws d.counted_is)
                (subst (λ t. Adds old mid (way_lines t blocks boxes is_first p)) (sym e) here.1))
                (subst (λ b. Adds mid new (run_lines from blocks boxes b (placed_at place gs))) (not_empty ws p) (there.1 from e)),
            λ from e k. there.2 from e (here.2 from e k),
          )

      -- a line of those behind it could not be written
      pub cut_later : AreCut h blocks boxes gs first sum mid new → AreCut h blocks boxes (w ∷ gs) start count old new
      cut_later rest ws d from e =
          let here = one ws p placed d.are_rooms in
          let there = rest (ws ++ p ∷ []) (one_done ws p first count sum d.counted_is s here.0) in
          adds_front_then old mid new (way_lines (from place.step place.number) blocks boxes (is_empty ws) p) (run_lines from blocks boxes false (placed_at place gs)) _ refl
          (subst (λ b. Adds old mid (way_lines (from place.step place.number) blocks boxes b p)) (flag ws d.counted_is)
          (subst (λ t. Adds old mid (way_lines t blocks boxes is_first p)) (sym e) here.1))
          (subst (λ b. AddsFront mid new (run_lines from blocks boxes b (placed_at place gs))) (not_empty ws p) (there from e))

-- ---- before the first way

all_free : (blocks : List Block3) (boxes : List ProbeBox) (i : ℕ) (b : ProbeBox) (r : Room) → slice_get boxes i ≡ Some b → slice_get (opening boxes) i ≡ Some r
    → IsRoom blocks (b.block ∷ []) [] r
all_free blocks [] i b r at stands = absurd (let no : None ≡ Some b = at in cc)
all_free blocks (c ∷ cs) zero b r at stands = (let free : Clear 50000 None ≡ r = (let e : Some (Clear 50000 None) ≡ Some r = stands in cc) in
    subst (IsRoom blocks (b.block ∷ []) []) free (refl, tt))
all_free blocks (c ∷ cs) (suc i) b r at stands = all_free blocks cs i b r at stands

as_many : (boxes : List ProbeBox) → length (opening boxes) ≡ length boxes
as_many [] = refl
as_many (b ∷ bs) = ap suc (as_many bs)

pub opened : (blocks : List Block3) (boxes : List ProbeBox) → IsDone blocks boxes [] (opening boxes) 0
opened blocks boxes = record {
  are_rooms = record { count = as_many boxes; each = all_free blocks boxes };
  counted_is = sym (min-eq_left {n = 0} {m = most} (omega arith));
}

-- ---- what follows of what a call ensures

pub if_ok : {A E : Type 0} (r : Result A E) (P Q : A → Type 0) → ((a : A) → P a → Q a) → IfOk r P → IfOk r Q
if_ok (Ok a) P Q f h = f a h
if_ok (Err e) P Q f h = h

pub if_err : {A E : Type 0} (r : Result A E) (P Q : E → Type 0) → ((e : E) → P e → Q e) → IfErr r P → IfErr r Q
if_err (Ok a) P Q f h = h
if_err (Err e) P Q f h = f e h

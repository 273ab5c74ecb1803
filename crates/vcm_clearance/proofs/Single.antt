-- A body has one room.
use Rattle.std.proofs.Common.{◌≡◌, ℕ, ◌+◌, ◌<◌, ◌∙◌, true, List, [], ◌∷◌, Option, Some, None, refl, sym, ap, inl, inr, arith}
use Rattle.std.specs.Prelude.{map}
use Rattle.std.specs.List.{list_all, AllByRecursion}
use Rattle.std.proofs.lemmas.Bool.{cases_lt}
use Rattle.vcm_spec.specs.declared.workpiece.Block3.{Block3}
use Rattle.vcm_spec.specs.Workpiece.{grown, is_block}
use Rattle.vcm_carried.specs.Carried.{IsBox}
use Rattle.vcm_carried.proofs.Widened.{grown_boxes}
use Rattle.vcm_way.specs.Gone.{PlacedWay}
use Rattle.vcm_clearance.specs.declared.told.Told.{Told}
use Rattle.vcm_clearance.specs.declared.room.Room.{Room}
use Rattle.vcm_clearance.specs.declared.room.Room.TheVariants.{Met, Clear}
use Rattle.vcm_clearance.specs.Contacts.{IsClearOn, told_if}
use Rattle.vcm_clearance.specs.Rooms.{or_else, first_told, IsRoom}
use Rattle.vcm_clearance.specs.Laws.{RoomsAreOne}
use Rattle.vcm_clearance.proofs.Answers.{clear_none}
use Rattle.vcm_clearance.proofs.Roominess.{met_none, clear_less, room_few, room_clear}

-- of a body that is clear on all ways nothing is told first
pub none_told : (most : ℕ) (blocks body : List Block3) → AllByRecursion (IsBox most) body → list_all is_block blocks ≡ true → (ws : List PlacedWay)
    → AllByRecursion (λ p. IsClearOn blocks body p.way) ws → first_told blocks body ws ≡ None
none_told most blocks body sides all [] h = refl
none_told most blocks body sides all (w ∷ ws) h =
    ap (λ o. or_else (told_if w o) (first_told blocks body ws)) (clear_none most body blocks sides all w.way h.0 true) ∙ none_told most blocks body sides all ws h.1

module _ (body blocks : List Block3) (sides : AllByRecursion (IsBox 10000000) body) (all : list_all is_block blocks ≡ true) (ws : List PlacedWay) where
  -- no room is the greater one
  no_more : (g more : ℕ) (m n : Option Told) → IsRoom blocks body ws (Clear g m) → IsRoom blocks body ws (Clear more n) → g < more → ⊥
  no_more g more None n h k l = let few = room_few blocks body sides all ws more n k in absurd (omega (arith, h.0, few, l))
  no_more g more (Some t) n h k l =
      let few = room_few blocks body sides all ws more n k in
      let clear = clear_less blocks body (g + 1) more ws (omega (arith, l)) (room_clear blocks body sides all ws more n k) in
      let none = none_told 10050000 blocks (map (grown (g + 1)) body) (grown_boxes (g + 1) body (omega (arith, l, few)) sides) all ws clear in
      absurd (let no : None ≡ Some t = sym none ∙ h.2 in cc)

  same_width : (g more : ℕ) (m n : Option Told) → IsRoom blocks body ws (Clear g m) → IsRoom blocks body ws (Clear more n) → g ≡ more
  same_width g more m n h k = elim (cases_lt g more) [
    | inl l ↦ absurd (no_more g more m n h k l)
    | inr l ↦ elim (cases_lt more g) [ inl o ↦ absurd (no_more more g n m k h o) | inr o ↦ omega (arith, l, o) ]
  ]

  same_told : (g more : ℕ) (m n : Option Told) → g ≡ more → IsRoom blocks body ws (Clear g m) → IsRoom blocks body ws (Clear more n) → m ≡ n
  same_told g more None None e h k = refl
  same_told g more None (Some t) e h k = absurd (omega (arith, e, h.0, k.0))
  same_told g more (Some t) None e h k = absurd (omega (arith, e, h.0, k.0))
  same_told g more (Some t) (Some u) e h k = sym h.2 ∙ ap (λ i. first_told blocks (map (grown (i + 1)) body) ws) e ∙ k.2

  same_clear : (g more : ℕ) (m n : Option Told) → IsRoom blocks body ws (Clear g m) → IsRoom blocks body ws (Clear more n) → Clear g m ≡ Clear more n
  same_clear g more m n h k =
      let e = same_width g more m n h k in
      ap (λ i. Clear i m) e ∙ ap (Clear more) (same_told g more m n e h k)

  met_or_clear : (c g : ℕ) (m : Option Told) → IsRoom blocks body ws (Met c) → IsRoom blocks body ws (Clear g m) → ⊥
  met_or_clear c g m h k =
      let none = met_none blocks body 10000000 sides all g ws (room_clear blocks body sides all ws g m k) in
      let some = h.1 in
      absurd (omega (arith, none, some))

  one_room : (r s : Room) → IsRoom blocks body ws r → IsRoom blocks body ws s → r ≡ s
  one_room (Met c) (Met k) h j = ap Met (h.0 ∙ sym j.0)
  one_room (Met c) (Clear g m) h j = absurd (met_or_clear c g m h j)
  one_room (Clear g m) (Met c) h j = absurd (met_or_clear c g m j h)
  one_room (Clear g m) (Clear more n) h j = same_clear g more m n h j

pub rooms_one : RoomsAreOne
rooms_one body blocks sides all ws r s h k = one_room body blocks sides all ws r s h k

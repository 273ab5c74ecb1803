-- Each body has a room, whatever the ways.
use Rattle.std.proofs.Common.{◌≡◌, ℕ, zero, suc, ◌+◌, ◌<◌, ◌≤◌, ◌∙◌, Bool, true, false, List, [], ◌∷◌, ◌++◌, slice_get, Option, Some, None, refl, sym, ap, subst, arith, append_assoc}
use Rattle.std.specs.Prelude.{is_some, map, min}
use Rattle.std.specs.List.{list_all, AllByRecursion}
use Rattle.std.proofs.lemmas.List.{append-nil}
use Rattle.vcm_spec.specs.declared.workpiece.Block3.{Block3}
use Rattle.vcm_spec.specs.Workpiece.{grown, is_block}
use Rattle.vcm_carried.specs.declared.contact.Contact.{Contact}
use Rattle.vcm_carried.specs.Carried.{IsBox}
use Rattle.vcm_carried.proofs.Widened.{grown_boxes}
use Rattle.vcm_boxes.specs.declared.boxes.ProbeBox.{ProbeBox}
use Rattle.vcm_way.specs.Gone.{PlacedWay}
use Rattle.vcm_clearance.specs.declared.room.Room.{Room}
use Rattle.vcm_clearance.specs.declared.room.Room.TheVariants.{Met, Clear}
use Rattle.vcm_clearance.specs.Contacts.{contact_on, told_at}
use Rattle.vcm_clearance.specs.Rooms.{most, IsRoom, AreRooms}
use Rattle.vcm_clearance.proofs.Answers.{none_clear, clear_none, clear_unmoved}
use Rattle.vcm_clearance.proofs.Roominess.{room_few, meets_more, meets_same, meets_first, clear_same, clear_now}

-- the last number below one at which there is none, where there is none at 0
record IsLast (f : ℕ → Option Contact) (g : ℕ) : Type 0 where
  last : ℕ
  contact : Contact
  less : last < g
  free : f last ≡ None
  met : f (last + 1) ≡ Some contact

last_free : (f : ℕ → Option Contact) (g : ℕ) (c : Contact) → f 0 ≡ None → f g ≡ Some c → IsLast f g
last_free f zero c none some = absurd (let no : None ≡ Some c = sym none ∙ some in cc)
last_free f (suc g) c none some = by (f g) refl (last_free f g)
  where
    by : (o : Option Contact) → f g ≡ o → ((d : Contact) → f 0 ≡ None → f g ≡ Some d → IsLast f g) → IsLast f (suc g)
    by None e k = record { last = g; contact = c; less = omega arith; free = e; met = ap f (let n : g + 1 ≡ suc g = omega arith in n) ∙ some }
    by (Some d) e k = (let i = k d none e in record { last = i.last; contact = i.contact; less = (let l = i.less in omega arith); free = i.free; met = i.met })

module _ (blocks body : List Block3) (sides : AllByRecursion (IsBox 10000000) body) (all : list_all is_block blocks ≡ true) where
  next_room : (ws : List PlacedWay) (p : PlacedWay) (r : Room) → IsRoom blocks body ws r → (s : Room) × IsRoom blocks body (ws ++ p ∷ []) s
  next_room ws p (Met c) h = by (is_some (contact_on blocks true body p.way)) refl
    where
      by : (t : Bool) → is_some (contact_on blocks true body p.way) ≡ t → (s : Room) × IsRoom blocks body (ws ++ p ∷ []) s
      by true e = (Met (min (c + 1) most), meets_more blocks body sides all ws p c (min (c + 1) most) refl e h)
      by false e = (Met c, meets_same blocks body sides all ws p c e h)
  next_room ws p (Clear g m) h = by (contact_on blocks true (map (grown g) body) p.way) refl
    where
      few : g ≤ 50000
      few = room_few blocks body sides all ws g m h

      free : (o : Option Contact) → contact_on blocks true body p.way ≡ o → (c : Contact) → contact_on blocks true (map (grown g) body) p.way ≡ Some c → (s : Room) × IsRoom blocks body (ws ++ p ∷ []) s
      free (Some d) e c f = (Met 1, meets_first blocks body sides all ws p g m (ap is_some e) h)
      free None e c f =
          let start = clear_none 10050000 (map (grown 0) body) blocks (grown_boxes 0 body (omega arith) sides) all p.way
          (clear_unmoved blocks body p.way (none_clear 10000000 body blocks sides all p.way e)) true in
          let i = last_free (λ k. contact_on blocks true (map (grown k) body) p.way) g c start f in
          (Clear i.last (Some (told_at p i.contact)), clear_now blocks body sides all ws p g i.last m i.contact i.less i.free i.met h)

      by : (o : Option Contact) → contact_on blocks true (map (grown g) body) p.way ≡ o → (s : Room) × IsRoom blocks body (ws ++ p ∷ []) s
      by None e = (Clear g m, clear_same blocks body sides all ws p g m e h)
      by (Some c) e = free (contact_on blocks true body p.way) refl c e

  room_behind : (ps ws : List PlacedWay) (r : Room) → IsRoom blocks body ws r → (s : Room) × IsRoom blocks body (ws ++ ps) s
  room_behind [] ws r h = (r, subst (λ l. IsRoom blocks body l r) (sym (append-nil ws)) h)
  room_behind (p ∷ ps) ws r h =
      let n = next_room ws p r h in
      let s = room_behind ps (ws ++ p ∷ []) n.0 n.1 in
      (s.0, subst (λ l. IsRoom blocks body l s.0) (append_assoc ws (p ∷ []) ps) s.1)

  -- a body that is free has all the room
  pub free_room : IsRoom blocks body [] (Clear 50000 None)
  free_room = (refl, tt)

  one_exists : (ws : List PlacedWay) → (r : Room) × IsRoom blocks body ws r
  one_exists ws = room_behind ws [] (Clear 50000 None) free_room

rooms_for : (blocks : List Block3) → list_all is_block blocks ≡ true → (ws : List PlacedWay) (boxes : List ProbeBox)
    → ((i : ℕ) (b : ProbeBox) → slice_get boxes i ≡ Some b → IsBox 10000000 b.block) → (rooms : List Room) × AreRooms blocks boxes ws rooms
rooms_for blocks all ws [] sides = ([], record { count = refl; each = λ i b r at stands. absurd (let no : None ≡ Some b = at in cc) })
rooms_for blocks all ws (b ∷ bs) sides =
    let r = one_exists blocks (b.block ∷ []) (sides 0 b refl, tt) all ws in
    let rs = rooms_for blocks all ws bs (λ i c at. sides (suc i) c at) in
    (r.0 ∷ rs.0, record { count = ap suc rs.1.count; each = each r.0 r.1 rs.0 rs.1 })
  where
    each : (r : Room) → IsRoom blocks (b.block ∷ []) ws r → (rs : List Room) → AreRooms blocks bs ws rs → (i : ℕ) (c : ProbeBox) (s : Room)
        → slice_get (b ∷ bs) i ≡ Some c → slice_get (r ∷ rs) i ≡ Some s → IsRoom blocks (c.block ∷ []) ws s
    each r h rs k zero c s at stands =
        let box : b ≡ c = (let e : Some b ≡ Some c = at in cc) in
        let room : r ≡ s = (let e : Some r ≡ Some s = stands in cc) in
        subst (λ (x : ProbeBox). IsRoom blocks (x.block ∷ []) ws s) box (subst (IsRoom blocks (b.block ∷ []) ws) room h)
    each r h rs k (suc i) c s at stands = k.each i c s at stands

-- there are rooms
pub rooms_exist : (blocks : List Block3) → list_all is_block blocks ≡ true → (ws : List PlacedWay) (boxes : List ProbeBox)
    → ((i : ℕ) (b : ProbeBox) → slice_get boxes i ≡ Some b → IsBox 10000000 b.block) → (rooms : List Room) × AreRooms blocks boxes ws rooms
rooms_exist = rooms_for

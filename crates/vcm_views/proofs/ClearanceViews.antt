-- Clearances as views.
use Rattle.std.specs.Prelude.{ℕ, Bool, true, List, Option}
use Rattle.std.specs.List.{list_any, list_all}
use Rattle.std.proofs.Common.{◌≡◌, suc, [], ◌∷◌, slice_get, Some, refl, sym, ap, ◌∙◌, subst, arith}
use Rattle.vcm_spec.specs.declared.workpiece.Block3.{Block3}
use Rattle.vcm_spec.specs.Workpiece.{Workpiece, IsValid, is_block}
use Rattle.vcm_program.specs.declared.accepted.Noticed.{Noticed}
use Rattle.vcm_code.specs.declared.code.Code.{Code}
use Rattle.vcm_job.specs.Views.{IsViewed, IsCutShort}
use Rattle.vcm_steps.specs.declared.fault.Unfinished.{Unfinished}
use Rattle.vcm_steps.specs.declared.fault.Unfinished.TheVariants as faults
use Rattle.vcm_steps.specs.Passages.{state_after}
use Rattle.vcm_boxes.specs.declared.boxes.ProbeBox.{ProbeBox}
use Rattle.vcm_boxes.specs.Boxes.{AreBoxes}
use Rattle.vcm_carried.specs.Carried.{IsBox}
use Rattle.vcm_way.specs.Gone.{PlacedWay, ways_of}
use Rattle.vcm_clearance.specs.declared.clearing.Cleared.{Cleared}
use Rattle.vcm_clearance.specs.declared.room.Room.{Room}
use Rattle.vcm_clearance.specs.Rooms.{AreRooms, is_met_room}
use Rattle.vcm_clearance.specs.Clearance.{clearance_text, IsClearance, IsNotCleared}
use Rattle.vcm_clearance.proofs.Single.{rooms_one}
use Rattle.vcm_clearance.proofs.Sizes.{box_at}
use Rattle.vcm_backtrace.specs.Sources.{Sourced, IsSourced}
use Rattle.vcm_views.specs.Views.{asked_for, clearance_status, clearance_view, IsClearanceOf}
use Rattle.vcm_views.proofs.OneSource.{one_source}
use Rattle.vcm_views.specs.inner.Cuts.{cut_short}

module _ (tells : Bool) (names : List (List ℕ)) (untried : List ℕ) (boxes : List ProbeBox) (program : Option (List ℕ)) (notices : List Noticed) (source : Option Sourced)
    (is : IsSourced (asked_for tells program) source) (w part : Workpiece) (same : w ≡ part) (c : Code) (n : ℕ) (old new : Option (List ℕ)) where
  pub clearance_viewed : (status : ℕ) (told : Cleared) → IsClearance names untried source w boxes c n told old new → status ≡ clearance_status told.is_met told.stop
      → IsViewed (clearance_view tells names untried boxes) program notices part c n status old new
  clearance_viewed status told t s =
      subst (λ p. IsViewed (clearance_view tells names untried boxes) program notices p c n status old new) same
      (record {
        text = clearance_text names untried source w boxes c n t.rooms;
        tells = record {
          rooms = t.rooms;
          are_rooms = t.are_rooms;
          source = source;
          is_source = is;
          text_is = refl;
          status_is = s ∙ ap (λ b. clearance_status b told.stop) t.is_met ∙ ap (clearance_status (list_any is_met_room t.rooms)) t.stop;
        };
        written = t.written;
      })

  clearance_cut : (f : Unfinished) → IsNotCleared names untried source w boxes c n f old new → IsCutShort (clearance_view tells names untried boxes) program notices w c n (cut_short f) old new
  clearance_cut faults.NoMemory t = t
  clearance_cut (faults.Memory done) t = (t.halted, record { source = source; is_source = is; written = t.written })
  clearance_cut (faults.Write done) t = record {
    text = clearance_text names untried source w boxes c n t.rooms;
    status = clearance_status (list_any is_met_room t.rooms) (state_after w c n).world.stop;
    tells = record { rooms = t.rooms; are_rooms = t.are_rooms; source = source; is_source = is; text_is = refl; status_is = refl };
    front = t.front;
  }

  pub clearance_cut_short : (f : Unfinished) → IsNotCleared names untried source w boxes c n f old new
      → IsCutShort (clearance_view tells names untried boxes) program notices part c n (cut_short f) old new
  clearance_cut_short f t = subst (λ p. IsCutShort (clearance_view tells names untried boxes) program notices p c n (cut_short f) old new) same (clearance_cut f t)

-- ---- boxes have one list of rooms

module _ (blocks : List Block3) (all : list_all is_block blocks ≡ true) (ways : List PlacedWay) where
  same_rooms : (boxes : List ProbeBox) (rs ss : List Room) → ((i : ℕ) (b : ProbeBox) → slice_get boxes i ≡ Some b → IsBox 10000000 b.block)
      → AreRooms blocks boxes ways rs → AreRooms blocks boxes ways ss → rs ≡ ss
  same_rooms [] [] [] sides h k = refl
  same_rooms [] (r ∷ rs) ss sides h k = absurd (let no = h.count in omega (arith, no))
  same_rooms [] [] (s ∷ ss) sides h k = absurd (let no = k.count in omega (arith, no))
  same_rooms (b ∷ bs) [] ss sides h k = absurd (let no = h.count in omega (arith, no))
  same_rooms (b ∷ bs) (r ∷ rs) [] sides h k = absurd (let no = k.count in omega (arith, no))
  same_rooms (b ∷ bs) (r ∷ rs) (s ∷ ss) sides h k =
      let first : r ≡ s = rooms_one (b.block ∷ []) blocks (sides 0 b refl, tt) all ways r s (h.each 0 b r refl refl) (k.each 0 b s refl refl) in
      let rest : rs ≡ ss = same_rooms bs rs ss (λ i. sides (suc i)) (behind b r bs rs h) (behind b s bs ss k) in
      ap (λ x. x ∷ rs) first ∙ ap (λ xs. s ∷ xs) rest
    where
      behind : (b : ProbeBox) (r : Room) (bs : List ProbeBox) (rs : List Room) → AreRooms blocks (b ∷ bs) ways (r ∷ rs) → AreRooms blocks bs ways rs
      behind b r bs rs h = record { count = (let same = h.count in omega (arith, same)); each = λ i c q at is. h.each (suc i) c q at is }

pub same_clearance : (program : Option (List ℕ)) (names : List (List ℕ)) (untried : List ℕ) (part : Workpiece) (boxes : List ProbeBox) (c : Code) (n : ℕ) → IsValid part → AreBoxes boxes
    → (text other : List ℕ) (status more : ℕ) → IsClearanceOf program names untried part boxes c n text status → IsClearanceOf program names untried part boxes c n other more
    → (text ≡ other) × (status ≡ more)
same_clearance program names untried part boxes c n valid are text other status more h k =
    let same : h.rooms ≡ k.rooms = same_rooms part.blocks valid.each (ways_of part c n) boxes h.rooms k.rooms (box_at boxes are) h.are_rooms k.are_rooms in (
      h.text_is ∙ ap (clearance_text names untried h.source part boxes c n) same
          ∙ ap (λ s. clearance_text names untried s part boxes c n k.rooms) (one_source program h.source k.source h.is_source k.is_source) ∙ sym k.text_is,
      h.status_is ∙ ap (λ rooms. clearance_status (list_any is_met_room rooms) (state_after part c n).world.stop) same ∙ sym k.status_is,
    )

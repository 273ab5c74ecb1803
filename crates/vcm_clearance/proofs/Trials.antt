-- What the code finds of a room on one way.
use Rattle.std.proofs.Common.{◌≡◌, ℕ, zero, suc, ◌+◌, ◌<◌, ◌∙◌, true, List, [], ◌∷◌, ◌++◌, Option, Some, None, refl, sym, ap, subst, arith}
use Rattle.std.specs.Prelude.{is_some, map, min}
use Rattle.std.specs.List.{list_all, AllByRecursion}
use Rattle.vcm_spec.specs.declared.workpiece.Block3.{Block3}
use Rattle.vcm_spec.specs.Workpiece.{grown, is_block}
use Rattle.vcm_carried.specs.declared.contact.Contact.{Contact}
use Rattle.vcm_carried.specs.Carried.{IsBox}
use Rattle.vcm_carried.proofs.Widened.{grown_boxes}
use Rattle.vcm_way.specs.declared.gone.Gone.{Gone as Went}
use Rattle.vcm_way.specs.Gone.{Gone, PlacedWay}
use Rattle.vcm_way.specs.Seen.{IsSameWay, seen}
use Rattle.vcm_clearance.specs.declared.told.Told.{Told}
use Rattle.vcm_clearance.specs.declared.room.Room.TheVariants.{Met, Clear}
use Rattle.vcm_marks.specs.declared.mark.Moment.{Moment}
use Rattle.vcm_clearance.specs.Contacts.{contact_on, told_at, IsPlaced}
use Rattle.vcm_clearance.specs.Rooms.{most, IsRoom}
use Rattle.vcm_clearance.specs.inner.Following.{IsClearWith, IsMetWith}
use Rattle.vcm_clearance.proofs.Answers.{none_clear, clear_none, clear_unmoved}
use Rattle.vcm_clearance.proofs.Roominess.{meets_more, meets_same, meets_first, clear_same, clear_now}

-- a way is as it is
itself : (v : Went) → IsSameWay (seen v) (seen v)
itself v = record { going = refl; from = refl; to = refl; gone = record { first = v.way.gone.positive; second = v.way.gone.positive; under = omega arith; over = omega arith } }

module _ (blocks body : List Block3) (sides : AllByRecursion (IsBox 10000000) body) (all : list_all is_block blocks ≡ true) (v : Went) where
  abbrev Finds : (Gone → Option Contact) → Option Contact → Type 0
  Finds on o = (w : Gone) → IsSameWay (seen v) w → o ≡ on w

  -- a contact, or none, that the code finds with the sides of its boxes moved out
  pub met_with : (g : ℕ) (o : Option Contact) (c : Contact) → o ≡ Some c → Finds (contact_on blocks true (map (grown g) body)) o → IsMetWith blocks body v g c
  met_with g o c e h w same = sym (h w same) ∙ e

  pub clear_with : (g : ℕ) (o : Option Contact) → o ≡ None → Finds (contact_on blocks true (map (grown g) body)) o → IsClearWith blocks body v g
  clear_with g o e h w same = sym (h w same) ∙ e

  -- a body that is clear as it is, is so with these sides moved out by nothing
  pub clear_start : (o : Option Contact) → o ≡ None → Finds (contact_on blocks true body) o → IsClearWith blocks body v 0
  clear_start o e h w same =
      clear_none 10050000 (map (grown 0) body) blocks (grown_boxes 0 body (omega arith) sides) all w
      (clear_unmoved blocks body w (none_clear 10000000 body blocks sides all w (sym (h w same) ∙ e))) true

  -- so it meets a block only with these sides moved out by something
  pub some_width : (g : ℕ) (c : Contact) → IsClearWith blocks body v 0 → IsMetWith blocks body v g c → 0 < g
  some_width zero c h k = absurd (let no : None ≡ Some c = sym (h (seen v) (itself v)) ∙ k (seen v) (itself v) in cc)
  some_width (suc g) c h k = omega arith

  module _ (place : Moment) (ws : List PlacedWay) (p : PlacedWay) (placed : IsPlaced place v p) where
    pub trial_more : (o : Option Contact) (c : Contact) → o ≡ Some c → Finds (contact_on blocks true body) o → (k n : ℕ) → n ≡ min (k + 1) most
        → IsRoom blocks body ws (Met k) → IsRoom blocks body (ws ++ p ∷ []) (Met n)
    trial_more o c e h k n f room = meets_more blocks body sides all ws p k n f (ap is_some (sym (h p.way placed.way) ∙ e)) room

    pub trial_same : (o : Option Contact) → o ≡ None → Finds (contact_on blocks true body) o → (k : ℕ) → IsRoom blocks body ws (Met k) → IsRoom blocks body (ws ++ p ∷ []) (Met k)
    trial_same o e h k room = meets_same blocks body sides all ws p k (ap is_some (sym (h p.way placed.way) ∙ e)) room

    pub trial_first : (o : Option Contact) (c : Contact) → o ≡ Some c → Finds (contact_on blocks true body) o → (g : ℕ) (m : Option Told)
        → IsRoom blocks body ws (Clear g m) → IsRoom blocks body (ws ++ p ∷ []) (Met 1)
    trial_first o c e h g m room = meets_first blocks body sides all ws p g m (ap is_some (sym (h p.way placed.way) ∙ e)) room

    pub trial_clear : (g : ℕ) (m : Option Told) (o : Option Contact) → o ≡ None → Finds (contact_on blocks true (map (grown g) body)) o
        → IsRoom blocks body ws (Clear g m) → IsRoom blocks body (ws ++ p ∷ []) (Clear g m)
    trial_clear g m o e h room = clear_same blocks body sides all ws p g m (sym (h p.way placed.way) ∙ e) room

    pub trial_narrow : (g less : ℕ) (m : Option Told) (c : Contact) (t : Told) → less < g → IsClearWith blocks body v less → IsMetWith blocks body v (less + 1) c → t ≡ told_at p c
        → IsRoom blocks body ws (Clear g m) → IsRoom blocks body (ws ++ p ∷ []) (Clear less (Some t))
    trial_narrow g less m c t l free met e room =
        subst (λ x. IsRoom blocks body (ws ++ p ∷ []) (Clear less (Some x))) (sym e) (clear_now blocks body sides all ws p g less m c l (free p.way placed.way) (met p.way placed.way) room)

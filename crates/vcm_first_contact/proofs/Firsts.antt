-- The first contact on ways, way by way.
use Rattle.std.proofs.Common.{◌≡◌, ℕ, ◌+◌, Bool, true, false, List, [], ◌∷◌, ◌++◌, drop, Option, Some, None, refl, sym, ap, ◌∙◌, subst}
use Rattle.std.specs.Prelude.{option_map, option_to_list, if◌then◌else◌}
use Rattle.std.specs.List.{AllByRecursion}
use Rattle.vcm_spec.specs.declared.workpiece.Block3.{Block3}
use Rattle.vcm_spec.specs.FirstContact.{is_not_after}
use Rattle.vcm_spec.specs.Workpiece.{Workpiece}
use Rattle.vcm_boxes.specs.declared.boxes.ProbeBox.{ProbeBox}
use Rattle.vcm_marks.specs.declared.mark.Mark.{Mark}
use Rattle.vcm_marks.specs.declared.mark.Moment.{Moment}
use Rattle.vcm_way.specs.declared.gone.Gone.{Gone as Went}
use Rattle.vcm_way.specs.Gone.{Gone, PlacedWay, first_way, ways_in, placed_at}
use Rattle.vcm_way.specs.Seen.{IsSameWay, IsSameIfAny, IsNearWay, IsNearIfAny, seen}
use Rattle.vcm_clearance.specs.Contacts.{IsPlaced}
use Rattle.vcm_first_contact.specs.declared.first.FirstContact.{FirstContact}
use Rattle.vcm_first_contact.specs.declared.first.Met.{Met as Seen}
use Rattle.vcm_first_contact.specs.First.{Met, met_by, sooner, first_of, first_at, or_else, first_on, first_in}
use Rattle.vcm_first_contact.specs.inner.Shares.{shared}
use Rattle.vcm_first_contact.specs.inner.Standing.{IsMetAs, IsMet, on_way}

pub or_both : (x y z : Option FirstContact) → or_else (or_else x y) z ≡ or_else x (or_else y z)
or_both None y z = refl
or_both (Some f) y z = refl

-- on ways and on those behind them
pub first_both : (blocks : List Block3) (boxes : List ProbeBox) (ws vs : List PlacedWay) → first_in blocks boxes (ws ++ vs) ≡ or_else (first_in blocks boxes ws) (first_in blocks boxes vs)
first_both blocks boxes [] vs = refl
first_both blocks boxes (w ∷ ws) vs = ap (or_else (first_on blocks boxes w)) (first_both blocks boxes ws vs) ∙ sym (or_both (first_on blocks boxes w) _ _)

-- ---- the sooner of two boxes

module _ (w : Gone) where
  pub none_first : (v : Option Seen) (f n : Option Met) → IsMet w None f → IsMet w v n → IsMet w v (sooner f n)
  none_first v None n h k = k
  none_first v (Some m) n h k = absurd h

  pub none_next : (v : Option Seen) (f n : Option Met) → IsMet w v f → IsMet w None n → IsMet w v (sooner f n)
  none_next v None None h k = h
  none_next v (Some m) None h k = h
  none_next v f (Some m) h k = absurd k

  module _ (a b : Seen) where
    same_test : (m l : Met) → IsMetAs w a m → IsMetAs w b l → is_not_after (shared a.at) (shared b.at) ≡ is_not_after m.entered.at l.entered.at
    same_test m l h k = ap (λ q. is_not_after q (shared b.at)) h.at ∙ ap (is_not_after m.entered.at) k.at

    pub first_kept : (f n : Option Met) → is_not_after (shared a.at) (shared b.at) ≡ true → IsMet w (Some a) f → IsMet w (Some b) n → IsMet w (Some a) (sooner f n)
    first_kept None n t h k = absurd h
    first_kept (Some m) None t h k = absurd k
    first_kept (Some m) (Some l) t h k = subst (λ (t : Bool). IsMet w (Some a) (Some (if t then m else l))) (sym (sym (same_test m l h k) ∙ t)) h

    pub next_taken : (f n : Option Met) → is_not_after (shared a.at) (shared b.at) ≡ false → IsMet w (Some a) f → IsMet w (Some b) n → IsMet w (Some b) (sooner f n)
    next_taken None n t h k = absurd h
    next_taken (Some m) None t h k = absurd k
    next_taken (Some m) (Some l) t h k = subst (λ (t : Bool). IsMet w (Some b) (Some (if t then m else l))) (sym (sym (same_test m l h k) ∙ t)) k

-- ---- the boxes, one after another

-- what is found of those before this place, and what the others make of it
pub record IsSoFar (blocks : List Block3) (w : Gone) (boxes : List ProbeBox) (i : ℕ) (first : Option Seen) : Type 0 where
  pub known : Option Met
  pub is : IsMet w first known
  pub left : first_of blocks w known i (drop i boxes) ≡ first_of blocks w None 0 boxes

module _ (blocks : List Block3) (w : Gone) (boxes : List ProbeBox) where
  pub none_yet : IsSoFar blocks w boxes 0 None
  none_yet = record { known = None; is = tt; left = refl }

  pub one_more : (i : ℕ) (b : ProbeBox) → drop i boxes ≡ b ∷ drop (i + 1) boxes → (first next new : Option Seen) → IsSoFar blocks w boxes i first → IsMet w next (met_by blocks w i b.block)
      → ((f n : Option Met) → IsMet w first f → IsMet w next n → IsMet w new (sooner f n)) → IsSoFar blocks w boxes (i + 1) new
  one_more i b e first next new h k s = record {
    known = sooner h.known (met_by blocks w i b.block);
    is = s h.known (met_by blocks w i b.block) h.is k;
    left = sym (ap (first_of blocks w h.known i) e) ∙ h.left;
  }

  pub all_tried : (i : ℕ) (first : Option Seen) → drop i boxes ≡ [] → IsSoFar blocks w boxes i first → IsMet w first (first_of blocks w None 0 boxes)
  all_tried i first e h = subst (IsMet w first) (sym (ap (first_of blocks w h.known i) e) ∙ h.left) h.is

-- ---- the first way of a step

module _ (blocks : List Block3) (boxes : List ProbeBox) (place : Moment) where
  pub no_way : (o : Option Gone) → IsSameIfAny None o → None ≡ on_way blocks boxes place o
  no_way None h = refl
  no_way (Some w) h = absurd h

  none_at : (p : PlacedWay) (o : Option Met) → IsMet p.way None o → None ≡ option_map (first_at p) o
  none_at p None h = refl
  none_at p (Some m) h = absurd h

  some_at : (v : Went) (p : PlacedWay) → IsPlaced place v p → (met : Seen) (o : Option Met) → IsMet p.way (Some met) o → (f : FirstContact)
      → ((p : PlacedWay) (m : Met) → IsPlaced place v p → IsMet p.way (Some met) (Some m) → f ≡ first_at p m) → Some f ≡ option_map (first_at p) o
  some_at v p placed met None h f is = absurd h
  some_at v p placed met (Some m) h f is = ap Some (is p m placed h)

  abbrev placed : Gone → PlacedWay
  placed w = record { way = w; step = place.step; number = place.number; line = place.line }

  -- no box meets a block on it
  pub none_there : (v : Went) (o : Option Gone) → IsSameIfAny (Some v) o → ((w : Gone) → IsSameWay (seen v) w → IsMet w None (first_of blocks w None 0 boxes)) → None ≡ on_way blocks boxes place o
  none_there v None same h = absurd same
  none_there v (Some w) same h = none_at (placed w) (first_of blocks w None 0 boxes) (h w same)

  -- a box does
  pub one_there : (v : Went) (o : Option Gone) → IsSameIfAny (Some v) o → (met : Seen) → ((w : Gone) → IsSameWay (seen v) w → IsMet w (Some met) (first_of blocks w None 0 boxes))
      → (f : FirstContact) → ((p : PlacedWay) (m : Met) → IsPlaced place v p → IsMet p.way (Some met) (Some m) → f ≡ first_at p m) → Some f ≡ on_way blocks boxes place o
  one_there v None same met h f is = absurd same
  one_there v (Some w) same met h f is =
      some_at v (placed w) (record { way = same; step = refl; number = refl; line = refl }) met (first_of blocks w None 0 boxes) (h w same) f is

-- what is told of a box
pub told_is : (place : Moment) (v : Went) (p : PlacedWay) (met : Seen) (m : Met) → IsPlaced place v p → IsMetAs p.way met m → (f : FirstContact)
    → f ≡ record { index = met.index; told = record { going = v.going; step = place.step; number = place.number; line = place.line; contact = met.contact }; from = v.way.from; to = v.way.to }
    → f ≡ first_at p m
told_is place v p met m h k f e =
    let going : v.going ≡ p.way.going = h.way.going in
    let from : v.way.from ≡ p.way.from = h.way.from in
    let to : v.way.to ≡ p.way.to = h.way.to in
    let step = h.step in
    let number = h.number in
    let line = h.line in
    let index = k.index in
    let contact = k.contact in
    cc

-- ---- the ways of a step

module _ (part : Workpiece) (boxes : List ProbeBox) (place : Moment) (ms : List Mark) where
  abbrev all : Option FirstContact
  all = first_in part.blocks boxes (placed_at place (ways_in part ms))

  pub none_left : ms ≡ [] → None ≡ first_in part.blocks boxes (placed_at place (ways_in part ms))
  none_left e = sym (ap (λ l. first_in part.blocks boxes (placed_at place (ways_in part l))) e)

  module _ (m : Mark) (behind : List Mark) (e : ms ≡ m ∷ behind) where
    abbrev later : Option FirstContact
    later = first_in part.blocks boxes (placed_at place (ways_in part behind))

    in_turn : or_else (on_way part.blocks boxes place (first_way part ms)) later ≡ all
    in_turn = subst (λ l. or_else (on_way part.blocks boxes place (first_way part l)) later ≡ first_in part.blocks boxes (placed_at place (ways_in part l))) (sym e) (by (first_way part (m ∷ behind)))
      where
        by : (o : Option Gone) → or_else (on_way part.blocks boxes place o) later ≡ first_in part.blocks boxes (placed_at place (option_to_list o ++ ways_in part behind))
        by None = refl
        by (Some w) = refl

    pub first_near : AllByRecursion IsNearWay (ways_in part ms) → IsNearIfAny (first_way part ms)
    first_near h = subst (λ l. IsNearIfAny (first_way part l)) (sym e) (by (first_way part (m ∷ behind)) (subst (λ l. AllByRecursion IsNearWay (ways_in part l)) e h))
      where
        by : (o : Option Gone) → AllByRecursion IsNearWay (option_to_list o ++ ways_in part behind) → IsNearIfAny o
        by None h = tt
        by (Some w) h = h.0

    pub found_now : (f : FirstContact) → Some f ≡ on_way part.blocks boxes place (first_way part ms) → Some f ≡ first_in part.blocks boxes (placed_at place (ways_in part ms))
    found_now f is = ap (λ o. or_else o later) is ∙ in_turn

    pub found_later : None ≡ on_way part.blocks boxes place (first_way part ms) → (r : Option FirstContact) → r ≡ first_in part.blocks boxes (placed_at place (ways_in part behind))
        → r ≡ first_in part.blocks boxes (placed_at place (ways_in part ms))
    found_later is r e = e ∙ ap (λ o. or_else o later) is ∙ in_turn

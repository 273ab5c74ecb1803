-- Events that are added.
use Rattle.std.specs.Prelude.{map, option_to_list}
use Rattle.std.proofs.Common.{◌≡◌, ℕ, Bool, true, false, List, [], ◌∷◌, ◌++◌, Option, Some, None, refl, sym, ap, subst, ◌∙◌, append_assoc}
use Rattle.std.proofs.lemmas.List.{append-nil}
use Rattle.vcm_spec.specs.Workpiece.{Workpiece}
use Rattle.vcm_marks.specs.declared.mark.Moment.{Moment}
use Rattle.vcm_way.specs.Gone.{Gone, PlacedWay, placed_at}
use Rattle.vcm_probe_set.specs.Probes.{Probe}
use Rattle.vcm_turning.specs.Steps.{TurnedStep}
use Rattle.vcm_set_clearance.specs.declared.event.Event.{Event}
use Rattle.vcm_set_clearance.specs.Events.{Happening, goes, turns, WayBy, IsEvent, AreEvents, ways_with, first_behind, happens, happen}
use Rattle.vcm_set_clearance.specs.inner.Gathering.{HasAdded, HasGathered}

-- ---- events

pub are_more : (es : List Event) (hs : List Happening) (e : Event) (h : Happening) → AreEvents es hs → IsEvent e h → AreEvents (es ++ e ∷ []) (hs ++ h ∷ [])
are_more [] [] e h all one = (one, tt)
are_more [] (x ∷ hs) e h all one = absurd all
are_more (a ∷ es) [] e h all one = absurd all
are_more (a ∷ es) (x ∷ hs) e h all one = (all.0, are_more es hs e h all.1 one)

pub nothing_added : (es : List Event) (hs : List Happening) → AreEvents es hs → AreEvents es (hs ++ [])
nothing_added es hs h = subst (AreEvents es) (sym (append-nil hs)) h

pub first_more : (first : Bool) (xs ys : List Happening) → first_behind first (xs ++ ys) ≡ first_behind (first_behind first xs) ys
first_more first [] ys = refl
first_more first (goes w ∷ xs) ys = first_more false xs ys
first_more first (turns c ∷ xs) ys = first_more true xs ys

pub added_none : (first : Bool) (es : List Event) → HasAdded first es es first []
added_none first es = (refl, λ hs h. nothing_added es hs h)

pub added_more : (first mid next : Bool) (a b c : List Event) (xs ys : List Happening) → HasAdded first a b mid xs → HasAdded mid b c next ys → HasAdded first a c next (xs ++ ys)
added_more first mid next a b c xs ys h k = (
  k.0 ∙ ap (λ f. first_behind f ys) h.0 ∙ sym (first_more first xs ys),
  λ hs all. subst (AreEvents c) (append_assoc hs xs ys) (k.1 (hs ++ xs) (h.1 hs all)),
)

-- one more
pub added_one : (first next : Bool) (es new : List Event) (e : Event) (h : Happening) → new ≡ es ++ e ∷ [] → next ≡ first_behind first (h ∷ []) → IsEvent e h → HasAdded first es new next (h ∷ [])
added_one first next es new e h is flag one = (flag, λ hs all. subst (λ l. AreEvents l (hs ++ h ∷ [])) (sym is) (are_more es hs e h all one))

-- ---- the ways of a step

pub ways_more : (probe : ℕ) (place : Moment) (first mid next : Bool) (a b c : List Event) (w : Gone) (gs : List Gone)
    → HasAdded first a b mid (goes (record { way = record { way = w; step = place.step; number = place.number; line = place.line }; probe = probe; is_first = first }) ∷ [])
    → HasAdded mid b c next (ways_with probe mid (placed_at place gs)) → HasAdded first a c next (ways_with probe first (placed_at place (w ∷ gs)))
ways_more probe place first mid next a b c w gs h k =
    let rest = subst (λ f. HasAdded mid b c next (ways_with probe f (placed_at place gs))) h.0 k in
    added_more first mid next a b c (goes (record { way = record { way = w; step = place.step; number = place.number; line = place.line }; probe = probe; is_first = first }) ∷ [])
    (ways_with probe false (placed_at place gs)) h rest

-- ---- steps

pub happen_more : (part : Workpiece) (ps : List Probe) (first : Bool) (ss : List TurnedStep) (s : TurnedStep)
    → happen part ps first (ss ++ s ∷ []) ≡ happen part ps first ss ++ happens part ps (first_behind first (happen part ps first ss)) s
happen_more part ps first [] s = append-nil (happens part ps first s)
happen_more part ps first (t ∷ ss) s =
    let here = happens part ps first t in
    let f = first_behind first here in
    ap (λ l. here ++ l) (happen_more part ps f ss s)
    ∙ sym (append_assoc here (happen part ps f ss) (happens part ps (first_behind f (happen part ps f ss)) s))
    ∙ ap (λ g. (here ++ happen part ps f ss) ++ happens part ps g s) (sym (first_more first here (happen part ps f ss)))

-- behind one more step
pub gathered_more : (part : Workpiece) (ps : List Probe) (first mid next : Bool) (a b c : List Event) (ss : List TurnedStep) (s : TurnedStep)
    → HasGathered part ps first a b mid ss → HasAdded mid b c next (happens part ps mid s) → HasGathered part ps first a c next (ss ++ s ∷ [])
gathered_more part ps first mid next a b c ss s h k =
    let step = subst (λ f. HasAdded mid b c next (happens part ps f s)) h.0 k in
    subst (HasAdded first a c next) (sym (happen_more part ps first ss s))
    (added_more first mid next a b c (happen part ps first ss) (happens part ps (first_behind first (happen part ps first ss)) s) h step)

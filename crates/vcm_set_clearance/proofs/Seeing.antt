-- Rooms behind events that a loop has seen, one after another.
use Rattle.std.proofs.Common.{◌≡◌, ℕ, zero, suc, ◌+◌, ◌<◌, ◌≤◌, Bool, true, false, List, [], ◌∷◌, ◌++◌, length, get_or, drop, Option, Some, None, refl, sym, ap, subst, ◌∙◌, arith, append_assoc}
use Rattle.std.specs.Prelude.{◌==◌, if◌then◌else◌}
use Rattle.std.proofs.lemmas.List.{append-nil, drop_all, drop_more}
use Rattle.vcm_way.specs.Gone.{PlacedWay}
use Rattle.vcm_probe_set.specs.Probes.{Probe}
use Rattle.vcm_spec.specs.declared.workpiece.Block3.{Block3}
use Rattle.vcm_clearance.specs.declared.room.Room.{Room}
use Rattle.vcm_clearance.specs.Contacts.{IsPlaced}
use Rattle.vcm_clearance.specs.Rooms.{IsRoom}
use Rattle.vcm_turning.specs.Choosing.{probe_on}
use Rattle.vcm_set_clearance.specs.declared.event.ProbeWay.{ProbeWay}
use Rattle.vcm_set_clearance.specs.declared.event.Change.{Change}
use Rattle.vcm_set_clearance.specs.declared.event.Event.{Event}
use Rattle.vcm_set_clearance.specs.declared.event.Event.TheVariants.{Way, Turn}
use Rattle.vcm_set_clearance.specs.Events.{Happening, ChangeAt, goes, turns, IsChangeAt, IsEvent, AreEvents, ways_by}
use Rattle.vcm_set_clearance.specs.Swings.{turns_between, turns_at, standing, with_standing, standings}

-- these are the events, the first n of which were seen, and this is known of those
pub record IsBehind (P : List Happening → Type 0) (es : List Event) (n : ℕ) (hs : List Happening) : Type 0 where
  pub before : List Happening
  pub behind : List Happening
  pub whole : hs ≡ before ++ behind
  pub left : AreEvents (drop n es) behind
  pub known : P before

pub none_seen : (P : List Happening → Type 0) (es : List Event) (hs : List Happening) → AreEvents es hs → P [] → IsBehind P es 0 hs
none_seen P es hs all k = record { before = []; behind = hs; whole = refl; left = all; known = k }

drop_one : (es : List Event) (n : ℕ) (e : Event) → n < length es → get_or es n e ≡ e → drop n es ≡ e ∷ drop (n + 1) es
drop_one es n e l at = drop_more es n e l ∙ ap (λ x. x ∷ drop (n + 1) es) at

pub one_seen : (P Q : List Happening → Type 0) (es : List Event) (n : ℕ) (hs : List Happening) (e : Event) → n < length es → get_or es n e ≡ e
    → ((before : List Happening) (h : Happening) → IsEvent e h → P before → Q (before ++ h ∷ [])) → IsBehind P es n hs → IsBehind Q es (n + 1) hs
one_seen P Q es n hs e l at step k = by k.behind k.whole (subst (λ rest. AreEvents rest k.behind) (drop_one es n e l at) k.left)
  where
    by : (behind : List Happening) → hs ≡ k.before ++ behind → AreEvents (e ∷ drop (n + 1) es) behind → IsBehind Q es (n + 1) hs
    by [] whole left = absurd left
    by (h ∷ rest) whole left = record {
      before = k.before ++ h ∷ [];
      behind = rest;
      whole = whole ∙ sym (append_assoc k.before (h ∷ []) rest);
      left = left.1;
      known = step k.before h left.0 k.known;
    }

pub all_seen : (P : List Happening → Type 0) (es : List Event) (n : ℕ) (hs : List Happening) → length es ≤ n → IsBehind P es n hs → P hs
all_seen P es n hs l k = by k.behind k.whole (subst (λ rest. AreEvents rest k.behind) (drop_all n es l) k.left)
  where
    by : (behind : List Happening) → hs ≡ k.before ++ behind → AreEvents [] behind → P hs
    by [] whole left = subst P (sym (whole ∙ append-nil k.before)) k.known
    by (h ∷ rest) whole left = absurd left

-- ---- the ways of a probe, and those of the swing

pub by_more : (i : ℕ) (xs ys : List Happening) → ways_by i (xs ++ ys) ≡ ways_by i xs ++ ways_by i ys
by_more i [] ys = refl
by_more i (goes w ∷ xs) ys = by (w.probe == i) (by_more i xs ys)
  where
    by : (t : Bool) → ways_by i (xs ++ ys) ≡ ways_by i xs ++ ways_by i ys
        → (if t then w.way ∷ ways_by i (xs ++ ys) else ways_by i (xs ++ ys)) ≡ (if t then w.way ∷ ways_by i xs else ways_by i xs) ++ ways_by i ys
    by true e = ap (λ l. w.way ∷ l) e
    by false e = e
by_more i (turns c ∷ xs) ys = by_more i xs ys

pub standings_more : (ps : List Probe) (xs ys : List Happening) → standings ps (xs ++ ys) ≡ standings ps xs ++ standings ps ys
standings_more ps [] ys = refl
standings_more ps (goes w ∷ xs) ys = standings_more ps xs ys
standings_more ps (turns c ∷ xs) ys = by (turns_at ps c) (standings_more ps xs ys)
  where
    by : (t : Bool) → standings ps (xs ++ ys) ≡ standings ps xs ++ standings ps ys
        → with_standing t (standing c) (standings ps (xs ++ ys)) ≡ with_standing t (standing c) (standings ps xs) ++ standings ps ys
    by true e = ap (λ l. standing c ∷ l) e
    by false e = e

-- ---- one event

-- a way by the probe
pub next_by : (blocks body : List Block3) (probe : ℕ) (way : ProbeWay) (h : Happening) → IsEvent (Way way) h → way.probe ≡ probe → (ws : List PlacedWay) (r : Room)
    → ((p : PlacedWay) → IsPlaced way.place way.gone p → IsRoom blocks body (ws ++ p ∷ []) r) → IsRoom blocks body (ws ++ ways_by probe (h ∷ [])) r
next_by blocks body probe way (goes w) is e ws r step =
    let there : w.probe ≡ probe = sym is.probe ∙ e in
    let same : (w.probe == probe) ≡ true = grind (arith, there) in
    subst (λ (t : Bool). IsRoom blocks body (ws ++ (if t then w.way ∷ [] else [])) r) (sym same) (step w.way is.placed)
next_by blocks body probe way (turns c) is e ws r step = absurd is

-- a change at which the head turns
pub next_turn : (blocks body : List Block3) (ps : List Probe) (change : Change) (h : Happening) → IsEvent (Turn change) h
    → turns_between (probe_on ps change.from) (probe_on ps (Some change.to)) ≡ true → (ws : List PlacedWay) (r : Room)
    → ((c : ChangeAt) → IsChangeAt change c → IsRoom blocks body (ws ++ standing c ∷ []) r) → IsRoom blocks body (ws ++ standings ps (h ∷ [])) r
next_turn blocks body ps change (goes w) is e ws r step = absurd is
next_turn blocks body ps change (turns c) is e ws r step =
    let from : turns_between (probe_on ps c.from) (probe_on ps (Some c.to)) ≡ turns_between (probe_on ps change.from) (probe_on ps (Some c.to)) =
    ap (λ (o : Option ℕ). turns_between (probe_on ps o) (probe_on ps (Some c.to))) (sym is.from) in
    let to : turns_between (probe_on ps change.from) (probe_on ps (Some c.to)) ≡ turns_between (probe_on ps change.from) (probe_on ps (Some change.to)) =
    ap (λ (n : ℕ). turns_between (probe_on ps change.from) (probe_on ps (Some n))) (sym is.to) in
    subst (λ (t : Bool). IsRoom blocks body (ws ++ with_standing t (standing c) []) r) (sym (from ∙ to ∙ e)) (step c is)

-- What is met is told.
use Rattle.std.proofs.Common.{◌≡◌, ◌⊎◌, ℕ, ◌<◌, ◌∙◌, ℤ, Bool, true, false, cond, List, [], ◌∷◌, length, slice_get, Option, Some, None, refl, sym, ap, subst, inl, inr, arith}
use Rattle.std.specs.Prelude.{is_some, filter}
use Rattle.std.specs.List.{list_all, AllByRecursion}
use Rattle.std.proofs.lemmas.Int.{ints}
use Rattle.vcm_num.specs.declared.point.Point.{Point}
use Rattle.vcm_num.specs.Point.{coordinate}
use Rattle.vcm_spec.specs.declared.workpiece.Block3.{Block3}
use Rattle.vcm_spec.specs.Workpiece.{is_block}
use Rattle.vcm_spec.specs.FirstContact.{fraction}
use Rattle.vcm_carried.specs.declared.contact.Contact.{Contact}
use Rattle.vcm_carried.specs.Carried.{IsBox, IsCarried, BoxMeets, BoxMeetsBy, IsFirstContact}
use Rattle.vcm_carried.specs.Bodies.{OfSome, BodyCounts}
use Rattle.vcm_carried.proofs.Bodies.{of_some, body_is}
use Rattle.vcm_way.specs.Gone.{Gone, PlacedWay, ways_of}
use Rattle.vcm_clearance.specs.Contacts.{contact_on, is_met_on, told_at, told_if}
use Rattle.vcm_clearance.specs.Rooms.{met_ways}
use Rattle.vcm_clearance.specs.Laws.{IsSomeTold, WhatIsMetIsTold}
use Rattle.vcm_clearance.proofs.Answers.{none_clear}
use Rattle.vcm_clearance.proofs.Chains.{LastChain, gones, ways_chain}

-- on one axis: at the start of a way from q a box lies as at the end of one from p to q
turned : (l u low high p q y : ℤ) (c : ℤ) → IsCarried l u low high q y 0 1 c → IsCarried l u low high p q 1 1 c
turned l u low high p q y c h =
    let a = h.from_low in
    let b = h.to_high in
    record { above = h.above; below = h.below; from_low = omega (arith, ints); to_high = omega (arith, ints) }

module _ (body blocks : List Block3) (sides : AllByRecursion (IsBox 10000000) body) (all : list_all is_block blocks ≡ true) where
  -- the body meets no block where the centre of the tip is at a point
  abbrev IsFree : Point → Type 0
  IsFree a = (j : ℕ) (block : Block3) → slice_get blocks j ≡ Some block → (b : Point) → OfSome (λ box. BoxMeets box (coordinate a) (coordinate b) block 0 1) body → ⊥

  -- at the end of a way on which it met none, all of which was gone
  free_behind : (w : Gone) → w.gone ≡ fraction 1 1 → contact_on blocks true body w ≡ None → IsFree w.to
  free_behind w whole none j block stands b m =
      none_clear 10000000 body blocks sides all w none j block stands 1 1 (of_some (λ box. BoxMeets box (coordinate w.to) (coordinate b) block 0 1)
      (λ box. BoxMeetsBy w.gone box (coordinate w.from) (coordinate w.to) block 1 1) body
      (λ box h. record {
        meets = record {
          fraction = record { positive = omega arith; within = omega arith };
          shared = h.shared;
          on_axis = λ k l. turned _ _ _ _ (coordinate w.from k) (coordinate w.to k) (coordinate b k) (h.shared k) (h.on_axis k l);
        };
        was_gone = rw whole (omega arith);
      }) m)

  -- a block that is met on a way that begins where none is, is entered
  enters : (w : Gone) (c : Contact) → IsFree w.from → contact_on blocks true body w ≡ Some c → (o : Option Contact) → contact_on blocks false body w ≡ o → (d : Contact) × (o ≡ Some d)
  enters w c free met (Some d) e = (d, refl)
  enters w c free met None e =
      let there = subst (λ o. IsFirstContact blocks (BodyCounts true w.gone body (coordinate w.from) (coordinate w.to)) (coordinate w.from) (coordinate w.to) o) met
      (body_is 10000000 body blocks sides all w.gone true (coordinate w.from) (coordinate w.to)) in
      let clear = subst (λ o. IsFirstContact blocks (BodyCounts false w.gone body (coordinate w.from) (coordinate w.to)) (coordinate w.from) (coordinate w.to) o) e
      (body_is 10000000 body blocks sides all w.gone false (coordinate w.from) (coordinate w.to)) in
      let f = there.is_hit.first in
      absurd (clear there.is_hit.index f.block f.stands there.is_hit.a there.is_hit.b (record { meets = f.meets; outside = λ s. free there.is_hit.index f.block f.stands w.to s }))

  -- on the first way each contact is told, later on one that begins where none is met
  told_here : (is_first : Bool) (p : PlacedWay) (c : Contact) → (is_first ≡ true) ⊎ IsFree p.way.from → contact_on blocks true body p.way ≡ Some c
      → (o : Option Contact) → contact_on blocks is_first body p.way ≡ o
      → (d : Contact) × (o ≡ Some d)
  told_here true p c start met o e = (c, sym e ∙ met)
  told_here false p c (inl never) met o e = absurd (let same : false ≡ true = never in cc)
  told_here false p c (inr free) met o e = enters p.way c free met o e

  told_along : (ws : List PlacedWay) (is_first : Bool) (a : Point) → LastChain a (gones ws) → (is_first ≡ true) ⊎ IsFree a → 0 < met_ways blocks body ws → IsSomeTold blocks body is_first ws
  told_along [] is_first a chain start some = absurd (omega (arith, some))
  told_along (p ∷ ps) is_first a chain start some = by (contact_on blocks true body p.way) refl (λ f b h k more. told_along ps f b h k more)
    where
      begins : p.way.from ≡ a
      begins = first_of ps chain
        where
          first_of : (qs : List PlacedWay) → LastChain a (p.way ∷ gones qs) → p.way.from ≡ a
          first_of [] h = h
          first_of (q ∷ qs) h = h.0

      from_here : (is_first ≡ true) ⊎ IsFree p.way.from
      from_here = elim start [ inl f ↦ inl f | inr f ↦ inr (subst IsFree (sym begins) f) ]

      by : (o : Option Contact) → contact_on blocks true body p.way ≡ o
          → ((is_first : Bool) (b : Point) → LastChain b (gones ps) → (is_first ≡ true) ⊎ IsFree b → 0 < met_ways blocks body ps → IsSomeTold blocks body is_first ps)
          → IsSomeTold blocks body is_first (p ∷ ps)
      by (Some c) e k = (let d = told_here is_first p c from_here e (contact_on blocks is_first body p.way) refl in inl (told_at p d.0, ap (told_if p) d.1))
      by None e k = inr (later ps chain (subst (λ t. 0 < length (cond t (p ∷ filter (λ q. is_met_on blocks body q.way) ps) (filter (λ q. is_met_on blocks body q.way) ps))) (ap is_some e) some) k)
        where
          later : (qs : List PlacedWay) → LastChain a (p.way ∷ gones qs) → 0 < met_ways blocks body qs
              → ((is_first : Bool) (b : Point) → LastChain b (gones qs) → (is_first ≡ true) ⊎ IsFree b → 0 < met_ways blocks body qs
              → IsSomeTold blocks body is_first qs) → IsSomeTold blocks body false qs
          later [] h more k = absurd (omega (arith, more))
          later (q ∷ qs) h more k = k false p.way.to h.2 (inr (free_behind p.way h.1 e)) more

pub met_is_told : WhatIsMetIsTold
met_is_told part valid body sides c n some =
    told_along body part.blocks sides valid.each (ways_of part c n) true part.bounds.home (ways_chain part valid c n) (inl refl) some

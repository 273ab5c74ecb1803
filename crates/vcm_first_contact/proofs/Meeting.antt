-- The box that meets a block on a way, as the code finds it.
use Rattle.std.proofs.Common.{◌≡◌, ℕ, suc, ◌+◌, ◌-◌, ℤ, Bool, true, false, List, [], ◌∷◌, Option, Some, None, slice_get, refl, sym, ap, ◌∙◌, subst, arith}
use Rattle.std.specs.Prelude.{map, option_map, unwrap_or, if◌then◌else◌}
use Rattle.std.specs.List.{list_all}
use Rattle.vcm_num.specs.Point.{coordinate}
use Rattle.vcm_spec.specs.declared.workpiece.Block3.{Block3}
use Rattle.vcm_spec.specs.Workpiece.{grown, is_block}
use Rattle.vcm_spec.specs.FirstContact.{Fraction, fraction, Entered, is_not_after, entry, sooner, first_entered}
use Rattle.vcm_carried.specs.declared.contact.Contact.{Contact}
use Rattle.vcm_carried.specs.Carried.{IsBox, spread, IsFirstContact}
use Rattle.vcm_carried.specs.Bodies.{BodyCounts}
use Rattle.vcm_carried.specs.FirstCarried.{if_gone, box_entry, contact_at}
use Rattle.vcm_carried.proofs.Bodies.{one_box}
use Rattle.vcm_carried.proofs.Widened.{grown_boxes}
use Rattle.vcm_way.specs.declared.gone.Gone.{Gone as Went}
use Rattle.vcm_way.specs.Gone.{Gone}
use Rattle.vcm_way.specs.Seen.{IsSameWay, seen}
use Rattle.vcm_clearance.proofs.Answers.{found_on, unmoved_contact}
use Rattle.vcm_first_contact.specs.declared.first.Met.{Met as Seen}
use Rattle.vcm_first_contact.specs.First.{met_if, met_by}
use Rattle.vcm_first_contact.specs.inner.Shares.{shared}
use Rattle.vcm_first_contact.specs.inner.Standing.{IsMet}

-- ---- the block that is entered first

-- it stands in the list, and is entered at the fraction
record StandsAt (enters : Block3 → Option Fraction) (n : ℕ) (blocks : List Block3) (e : Entered) : Type 0 where
  place : ℕ
  block : Block3
  number : e.number ≡ n + place
  stands : slice_get blocks place ≡ Some block
  at : enters block ≡ Some e.at

module _ (enters : Block3 → Option Fraction) where
  abbrev IsThere : ℕ → List Block3 → Option Entered → Type 0
  IsThere n blocks None = Unit {0}
  IsThere n blocks (Some e) = StandsAt enters n blocks e

  here : (n : ℕ) (b : Block3) (bs : List Block3) (f : Fraction) → enters b ≡ Some f → StandsAt enters n (b ∷ bs) (record { number = n; at = f })
  here n b bs f e = record { place = 0; block = b; number = (let k : n ≡ n + 0 = omega arith in k); stands = refl; at = e }

  behind : (n : ℕ) (b : Block3) (bs : List Block3) (o : Option Entered) → IsThere (suc n) bs o → IsThere n (b ∷ bs) o
  behind n b bs None h = tt
  behind n b bs (Some e) h = record { place = suc h.place; block = h.block; number = (let k = h.number in omega (arith, k)); stands = h.stands; at = h.at }

  either : (n : ℕ) (b : Block3) (bs : List Block3) (f : Fraction) (e : Entered) → enters b ≡ Some f → StandsAt enters (suc n) bs e
      → (t : Bool) → IsThere n (b ∷ bs) (if t then Some (record { number = n; at = f }) else Some e)
  either n b bs f e is h true = here n b bs f is
  either n b bs f e is h false = behind n b bs (Some e) h

  joined : (n : ℕ) (b : Block3) (bs : List Block3) (o : Option Fraction) (later : Option Entered) → enters b ≡ o → IsThere (suc n) bs later → IsThere n (b ∷ bs) (sooner n o later)
  joined n b bs None later is h = behind n b bs later h
  joined n b bs (Some f) None is h = here n b bs f is
  joined n b bs (Some f) (Some e) is h = either n b bs f e is h (is_not_after f e.at)

  found_there : (n : ℕ) (blocks : List Block3) → IsThere n blocks (first_entered enters n blocks)
  found_there n [] = tt
  found_there n (b ∷ bs) = joined n b bs (enters b) (first_entered enters (suc n) bs) refl (found_there (suc n) bs)

-- what was gone of the way holds the fraction
by_gone : (gone : Fraction) (o : Option Fraction) (f : Fraction) → if_gone gone o ≡ Some f → o ≡ Some f
by_gone gone None f e = e
by_gone gone (Some g) f e = by (is_not_after g gone) e
  where
    by : (t : Bool) → (if t then Some g else None) ≡ Some f → Some g ≡ Some f
    by true e = e
    by false e = absurd (let no : None ≡ Some f = e in cc)

-- ---- what is found on a way

module _ (w : Gone) (box : Block3) (blocks : List Block3) where
  abbrev x : ℕ → ℤ
  x = coordinate w.from

  abbrev y : ℕ → ℤ
  y = coordinate w.to

  abbrev enters : Block3 → Option Fraction
  enters = box_entry true w.gone box x y

  abbrev entered : Option Entered
  entered = first_entered enters 1 blocks

  -- the contact that the code finds is that of the block that is entered first
  pub contact_is : IsBox 10000000 box → list_all is_block blocks ≡ true → (v : Went) → IsSameWay (seen v) w → (body : List Block3) → body ≡ box ∷ [] → (o : Option Contact)
      → IsFirstContact blocks (BodyCounts true (fraction v.way.gone.num v.way.gone.den) (map (grown 0) body) (coordinate v.way.from) (coordinate v.way.to))
      (coordinate v.way.from) (coordinate v.way.to) o
      → o ≡ option_map (contact_at (coordinate w.from) (coordinate w.to)) (first_entered (box_entry true w.gone box (coordinate w.from) (coordinate w.to)) 1 blocks)
  contact_is sides all v same body one o h =
      let there = subst (λ (own : List Block3). IsFirstContact blocks (BodyCounts true (fraction v.way.gone.num v.way.gone.den) (map (grown 0) own) (coordinate v.way.from) (coordinate v.way.to))
      (coordinate v.way.from) (coordinate v.way.to) o) one h in
      found_on 10050000 (map (grown 0) (box ∷ [])) blocks (grown_boxes 0 (box ∷ []) (omega arith) (sides, tt)) all v w same true o there
      ∙ unmoved_contact (box ∷ []) blocks (sides, tt) all w true
      ∙ one_box true w.gone box x y blocks

  record IsHeard (c : Contact) (e : Entered) : Type 0 where
    is : entered ≡ Some e
    told : c ≡ contact_at x y e
    there : StandsAt enters 1 blocks e

  heard : (c : Contact) (o : Option Entered) → entered ≡ o → Some c ≡ option_map (contact_at x y) o → IsThere enters 1 blocks o → (e : Entered) × IsHeard c e
  heard c None is told there = absurd (let no : Some c ≡ None = told in cc)
  heard c (Some e) is told there = (e, record { is = is; told = (let same : Some c ≡ Some (contact_at x y e) = told in cc); there = there })

  heard_of : (c : Contact) → Some c ≡ option_map (contact_at x y) entered → (e : Entered) × IsHeard c e
  heard_of c told = heard c entered refl told (found_there enters 1 blocks)

  -- its block stands at the place that its number tells
  stands_of : (c : Contact) (e : Entered) (h : IsHeard c e) → slice_get blocks (c.hit.block - 1) ≡ Some h.there.block
  stands_of c e h =
      let number : c.hit.block ≡ e.number = ap (λ (k : Contact). k.hit.block) h.told in
      let k = h.there.number in
      let place : c.hit.block - 1 ≡ h.there.place = omega (arith, number, k) in
      ap (slice_get blocks) place ∙ h.there.stands

  module _ (i : ℕ) where
    missed : (o : Option Entered) → None ≡ option_map (contact_at x y) o → IsMet w None (met_if i o)
    missed None e = tt
    missed (Some m) e = absurd (let no : None ≡ Some (contact_at x y m) = e in cc)

    -- no block is met
    pub none_met : None ≡ option_map (contact_at (coordinate w.from) (coordinate w.to)) (first_entered (box_entry true w.gone box (coordinate w.from) (coordinate w.to)) 1 blocks)
        → IsMet w None (met_by blocks w i box)
    none_met e = missed entered e

    -- there is always a block of this number
    pub none_stands : (c : Contact)
        → Some c ≡ option_map (contact_at (coordinate w.from) (coordinate w.to)) (first_entered (box_entry true w.gone box (coordinate w.from) (coordinate w.to)) 1 blocks)
        → slice_get blocks (c.hit.block - 1) ≡ None → IsMet w None (met_by blocks w i box)
    none_stands c told none =
        let h = heard_of c told in
        absurd (let no : None ≡ Some h.1.there.block = sym none ∙ stands_of c h.0 h.1 in cc)

    -- a block is met
    pub one_met : (c : Contact)
        → Some c ≡ option_map (contact_at (coordinate w.from) (coordinate w.to)) (first_entered (box_entry true w.gone box (coordinate w.from) (coordinate w.to)) 1 blocks)
        → (b : Block3) → slice_get blocks (c.hit.block - 1) ≡ Some b → (v : Seen) → v.index ≡ i → v.contact ≡ c
        → shared v.at ≡ unwrap_or (entry (coordinate w.from) (coordinate w.to) (spread box b)) (fraction 0 1) → IsMet w (Some v) (met_by blocks w i box)
    one_met c told b at v index contact share =
        let h = heard_of c told in
        let own : Some b ≡ Some h.1.there.block = sym at ∙ stands_of c h.0 h.1 in
        let same : b ≡ h.1.there.block = cc in
        let entry_is : entry x y (spread box b) ≡ Some h.0.at =
        ap (λ (k : Block3). entry x y (spread box k)) same ∙ by_gone w.gone (entry x y (spread box h.1.there.block)) h.0.at h.1.there.at in
        subst (λ o. IsMet w (Some v) (met_if i o)) (sym h.1.is) (record {
          index = index;
          contact = contact ∙ h.1.told;
          at = share ∙ ap (λ o. unwrap_or o (fraction 0 1)) entry_is;
        })

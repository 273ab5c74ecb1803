-- What the code finds on its ways, as contacts on the ways of the run.
use Rattle.std.proofs.Common.{◌≡◌, ℕ, ◌≤◌, ℤ, Bool, true, false, List, [], ◌∷◌, Option, Some, None, sym, subst, inl, inr, arith}
use Rattle.std.specs.Prelude.{map}
use Rattle.std.specs.List.{list_all, AllByRecursion}
use Rattle.vcm_num.specs.declared.point.Point.{Point}
use Rattle.vcm_num.specs.Point.{coordinate}
use Rattle.vcm_spec.specs.declared.workpiece.Block3.{Block3}
use Rattle.vcm_spec.specs.Workpiece.{grown, is_block}
use Rattle.vcm_spec.specs.FirstContact.{Fraction, fraction}
use Rattle.vcm_spec.proofs.Fractions.{not_after_trans}
use Rattle.vcm_carried.specs.declared.contact.Contact.{Contact}
use Rattle.vcm_carried.specs.Carried.{IsBox, BoxMeets, BoxMeetsBy, IsFirstContact}
use Rattle.vcm_carried.specs.Bodies.{OfSome, BodyMeetsBy, BodyCounts}
use Rattle.vcm_carried.proofs.Bodies.{of_some, body_is, body_unique}
use Rattle.vcm_carried.proofs.Boxes.{wider_meet, unmoved_meet}
use Rattle.vcm_carried.proofs.Widened.{grown_boxes}
use Rattle.vcm_way.specs.declared.gone.Gone.{Gone as Went}
use Rattle.vcm_way.specs.Gone.{Gone}
use Rattle.vcm_way.specs.Seen.{IsSame, IsSameWay, seen}
use Rattle.vcm_clearance.specs.Contacts.{IsClearOn, contact_on}

-- ---- ways of which as much was gone

meets_same : (f g : Fraction) → IsSame f g → (body : List Block3) (x y : ℕ → ℤ) (block : Block3) (a b : ℕ) → BodyMeetsBy f body x y block a b → BodyMeetsBy g body x y block a b
meets_same f g e body x y block a b m =
    of_some (λ box. BoxMeetsBy f box x y block a b) (λ box. BoxMeetsBy g box x y block a b) body
    (λ box h. record { meets = h.meets; was_gone = not_after_trans a b f.num f.den g.num g.den e.first h.was_gone e.under }) m

counts_same : (with_start : Bool) (f g : Fraction) → IsSame f g → (body : List Block3) (x y : ℕ → ℤ) (block : Block3) (a b : ℕ)
    → BodyCounts with_start f body x y block a b → BodyCounts with_start g body x y block a b
counts_same true f g e body x y block a b m = meets_same f g e body x y block a b m
counts_same false f g e body x y block a b m = record { meets = meets_same f g e body x y block a b m.meets; outside = m.outside }

turned : (f g : Fraction) → IsSame f g → IsSame g f
turned f g e = record { first = e.second; second = e.first; under = e.over; over = e.under }

-- a first contact stays one where the same counts
stays_first : (blocks : List Block3) (M N : Block3 → ℕ → ℕ → Type 0) (x y : ℕ → ℤ) → ((block : Block3) (a b : ℕ) → M block a b → N block a b)
    → ((block : Block3) (a b : ℕ) → N block a b → M block a b) → (o : Option Contact) → IsFirstContact blocks M x y o → IsFirstContact blocks N x y o
stays_first blocks M N x y there back None h = λ j block stands a b m. h j block stands a b (back block a b m)
stays_first blocks M N x y there back (Some c) h = record {
  is_hit = record {
    index = h.is_hit.index;
    a = h.is_hit.a;
    b = h.is_hit.b;
    first = record {
      block = h.is_hit.first.block;
      stands = h.is_hit.first.stands;
      meets = there h.is_hit.first.block h.is_hit.a h.is_hit.b h.is_hit.first.meets;
      earliest = λ j other stands a b m. h.is_hit.first.earliest j other stands a b (back other a b m);
      lowest = λ j other l stands a b m. h.is_hit.first.lowest j other l stands a b (back other a b m);
    };
    number = h.is_hit.number;
    permille = h.is_hit.permille;
  };
  stands = h.stands;
}

module _ (most : ℕ) (body blocks : List Block3) (sides : AllByRecursion (IsBox most) body) (all : list_all is_block blocks ≡ true) where
  abbrev IsFound : Bool → Fraction → Point → Point → Option Contact → Type 0
  IsFound with_start f a b o = IsFirstContact blocks (BodyCounts with_start f body (coordinate a) (coordinate b)) (coordinate a) (coordinate b) o

  -- what the code finds on its way is what there is on the way of the run
  pub found_on : (v : Went) (w : Gone) → IsSameWay (seen v) w → (with_start : Bool) (o : Option Contact)
      → IsFirstContact blocks (BodyCounts with_start (fraction v.way.gone.num v.way.gone.den) body (coordinate v.way.from) (coordinate v.way.to)) (coordinate v.way.from) (coordinate v.way.to) o
      → o ≡ contact_on blocks with_start body w
  found_on v w e with_start o h =
      let f = fraction v.way.gone.num v.way.gone.den in
      let there : IsFound with_start f w.from w.to o =
      subst (λ (b : Point). IsFound with_start f w.from b o) e.to (subst (λ (a : Point). IsFound with_start f a v.way.to o) e.from h) in
      let now : IsFound with_start w.gone w.from w.to o =
      stays_first blocks (BodyCounts with_start f body (coordinate w.from) (coordinate w.to)) (BodyCounts with_start w.gone body (coordinate w.from) (coordinate w.to))
      (coordinate w.from) (coordinate w.to) (counts_same with_start f w.gone e.gone body (coordinate w.from) (coordinate w.to))
      (counts_same with_start w.gone f (turned f w.gone e.gone) body (coordinate w.from) (coordinate w.to)) o there in
      body_unique most body blocks sides all w.gone with_start (coordinate w.from) (coordinate w.to) o now

  -- none is found where none is met, and the other way round
  pub none_clear : (w : Gone) → contact_on blocks true body w ≡ None → IsClearOn blocks body w
  none_clear w e = subst (IsFound true w.gone w.from w.to) e (body_is most body blocks sides all w.gone true (coordinate w.from) (coordinate w.to))

  pub clear_none : (w : Gone) → IsClearOn blocks body w → (with_start : Bool) → contact_on blocks with_start body w ≡ None
  clear_none w h true = sym (body_unique most body blocks sides all w.gone true (coordinate w.from) (coordinate w.to) None h)
  clear_none w h false = sym (body_unique most body blocks sides all w.gone false (coordinate w.from) (coordinate w.to) None (λ j block stands a b m. h j block stands a b m.meets))

-- ---- bodies whose boxes are moved

-- what holds of some box that was moved, holds of some box
moved_back : (P Q : Block3 → Type 0) (f : Block3 → Block3) (body : List Block3) → ((box : Block3) → P (f box) → Q box) → OfSome P (map f body) → OfSome Q body
moved_back P Q f [] h some = some
moved_back P Q f (box ∷ boxes) h (inl one) = inl (h box one)
moved_back P Q f (box ∷ boxes) h (inr more) = inr (moved_back P Q f boxes h more)

-- and the other way round
moved_there : (P Q : Block3 → Type 0) (f : Block3 → Block3) (body : List Block3) → ((box : Block3) → P box → Q (f box)) → OfSome P body → OfSome Q (map f body)
moved_there P Q f [] h some = some
moved_there P Q f (box ∷ boxes) h (inl one) = inl (h box one)
moved_there P Q f (box ∷ boxes) h (inr more) = inr (moved_there P Q f boxes h more)

-- or of some box that was moved otherwise
moved_on : (P Q : Block3 → Type 0) (f g : Block3 → Block3) (body : List Block3) → ((box : Block3) → P (f box) → Q (g box)) → OfSome P (map f body) → OfSome Q (map g body)
moved_on P Q f g [] h some = some
moved_on P Q f g (box ∷ boxes) h (inl one) = inl (h box one)
moved_on P Q f g (box ∷ boxes) h (inr more) = inr (moved_on P Q f g boxes h more)

-- what is clear with more is clear with less
pub less_clear : (blocks body : List Block3) (w : Gone) (g more : ℕ) → g ≤ more → IsClearOn blocks (map (grown more) body) w → IsClearOn blocks (map (grown g) body) w
less_clear blocks body w g more l h = λ j block stands a b m.
    h j block stands a b (moved_on (λ box. BoxMeetsBy w.gone box (coordinate w.from) (coordinate w.to) block a b) (λ box. BoxMeetsBy w.gone box (coordinate w.from) (coordinate w.to) block a b)
    (grown g) (grown more) body
    (λ box n. record { meets = wider_meet box block (coordinate w.from) (coordinate w.to) g more a b l n.meets; was_gone = n.was_gone }) m)

-- ---- moved out by nothing

module _ (gone : Fraction) (body : List Block3) (x y : ℕ → ℤ) (block : Block3) (a b : ℕ) where
  unmoved_back : BodyMeetsBy gone (map (grown 0) body) x y block a b → BodyMeetsBy gone body x y block a b
  unmoved_back m =
      moved_back (λ box. BoxMeetsBy gone box x y block a b) (λ box. BoxMeetsBy gone box x y block a b) (grown 0) body
      (λ box n. record { meets = (unmoved_meet box block x y a b).0 n.meets; was_gone = n.was_gone }) m

  unmoved_there : BodyMeetsBy gone body x y block a b → BodyMeetsBy gone (map (grown 0) body) x y block a b
  unmoved_there m =
      moved_there (λ box. BoxMeetsBy gone box x y block a b) (λ box. BoxMeetsBy gone box x y block a b) (grown 0) body
      (λ box n. record { meets = (unmoved_meet box block x y a b).1 n.meets; was_gone = n.was_gone }) m

  -- at the start of the way
  start_back : OfSome (λ box. BoxMeets box x y block 0 1) (map (grown 0) body) → OfSome (λ box. BoxMeets box x y block 0 1) body
  start_back m = moved_back (λ box. BoxMeets box x y block 0 1) (λ box. BoxMeets box x y block 0 1) (grown 0) body (λ box n. (unmoved_meet box block x y 0 1).0 n) m

  start_there : OfSome (λ box. BoxMeets box x y block 0 1) body → OfSome (λ box. BoxMeets box x y block 0 1) (map (grown 0) body)
  start_there m = moved_there (λ box. BoxMeets box x y block 0 1) (λ box. BoxMeets box x y block 0 1) (grown 0) body (λ box n. (unmoved_meet box block x y 0 1).1 n) m

  -- the same counts
  counts_back : (with_start : Bool) → BodyCounts with_start gone (map (grown 0) body) x y block a b → BodyCounts with_start gone body x y block a b
  counts_back true m = unmoved_back m
  counts_back false m = record { meets = unmoved_back m.meets; outside = λ s. m.outside (start_there s) }

  counts_there : (with_start : Bool) → BodyCounts with_start gone body x y block a b → BodyCounts with_start gone (map (grown 0) body) x y block a b
  counts_there true m = unmoved_there m
  counts_there false m = record { meets = unmoved_there m.meets; outside = λ s. m.outside (start_back s) }

-- with nothing it is the body
pub unmoved_clear : (blocks body : List Block3) (w : Gone) → IsClearOn blocks (map (grown 0) body) w → IsClearOn blocks body w
unmoved_clear blocks body w h = λ j block stands a b m. h j block stands a b (unmoved_there w.gone body (coordinate w.from) (coordinate w.to) block a b m)

pub clear_unmoved : (blocks body : List Block3) (w : Gone) → IsClearOn blocks body w → IsClearOn blocks (map (grown 0) body) w
clear_unmoved blocks body w h = λ j block stands a b m. h j block stands a b (unmoved_back w.gone body (coordinate w.from) (coordinate w.to) block a b m)

-- it has the same first contact
pub unmoved_contact : (body blocks : List Block3) → AllByRecursion (IsBox 10000000) body → list_all is_block blocks ≡ true → (w : Gone) (with_start : Bool)
    → contact_on blocks with_start (map (grown 0) body) w ≡ contact_on blocks with_start body w
unmoved_contact body blocks sides all w with_start =
    let x = coordinate w.from in
    let y = coordinate w.to in
    body_unique 10000000 body blocks sides all w.gone with_start x y (contact_on blocks with_start (map (grown 0) body) w)
    (stays_first blocks (BodyCounts with_start w.gone (map (grown 0) body) x y) (BodyCounts with_start w.gone body x y) x y
    (λ block a b m. counts_back w.gone body x y block a b with_start m) (λ block a b m. counts_there w.gone body x y block a b with_start m)
    (contact_on blocks with_start (map (grown 0) body) w)
    (body_is 10050000 (map (grown 0) body) blocks (grown_boxes 0 body (omega arith) sides) all w.gone with_start x y))

-- Numbers of a view stand apart, at their places.
use Rattle.std.proofs.Common.{◌≡◌, ◌∙◌, sym, ap, subst, refl, List, [], ◌∷◌, ◌++◌, map, append_assoc, append-nil, Some, None}
use Rattle.std.specs.Prelude.{Option}
use Rattle.std.specs.List.{AllByRecursion}
use Rattle.vcm_svg.specs.declared.rect.Rect.{Rect}
use Rattle.vcm_picture.specs.Sights.{Scope}
use Rattle.vcm_picture.specs.Laws.{StandApart}
use Rattle.vcm_picture.proofs.Apart.{MayBeFree, beside_free, taken_apart, more_apart}
use Rattle.vcm_picture.specs.Names.{beside}
use Rattle.vcm_picture.specs.View.{spot_of}
use Rattle.vcm_sheet.specs.declared.numbers.Numbered.{Numbered}
use Rattle.vcm_sheet.specs.declared.points.Pointed.{Pointed}
use Rattle.vcm_sheet.specs.Laws.{NumbersAreApart, NumbersStandThere}
use Rattle.vcm_sheet.specs.Numbers.{letters_of, Numbering, with_box, with_number, with_numbers}

-- the boxes of numbers
abbrev pub areas : List Numbered → List Rect
areas numbers = map (λ n. n.area) numbers

areas_more : (some more : List Numbered) → areas (some ++ more) ≡ areas some ++ areas more
areas_more [] more = refl
areas_more (n ∷ ns) more = ap (λ l. n.area ∷ l) (areas_more ns more)

-- a number that stands where its point does
abbrev pub StandsThere : Scope → Numbered → Type 0
StandsThere s n = n.at ≡ spot_of s n.point.touched.at

there_more : (s : Scope) (some more : List Numbered) → AllByRecursion (StandsThere s) some → AllByRecursion (StandsThere s) more
    → AllByRecursion (StandsThere s) (some ++ more)
there_more s [] more h k = k
there_more s (n ∷ ns) more h k = (h.0, there_more s ns more h.1 k)

-- numbers that were added, and stand apart, at their places
pub record Added (s : Scope) (n m : Numbering) : Type 0 where
  pub more : List Numbered
  pub numbers : m.numbers ≡ n.numbers ++ more
  pub taken : m.taken ≡ n.taken ++ areas more
  pub apart : StandApart s.wide n.taken (areas more)
  pub there : AllByRecursion (StandsThere s) more

none_added : (s : Scope) (n : Numbering) → Added s n n
none_added s n = record { more = []; numbers = sym (append-nil n.numbers); taken = sym (append-nil n.taken); apart = tt; there = tt }

box_added : (s : Scope) (n : Numbering) (p : Pointed) (o : Option Rect) → MayBeFree s.wide n.taken o → Added s n (with_box n p (spot_of s p.touched.at) o)
box_added s n p None h = none_added s n
box_added s n p (Some a) h = record {
  more = record { point = p; at = spot_of s p.touched.at; area = a } ∷ [];
  numbers = refl;
  taken = refl;
  apart = (h, tt);
  there = (refl, tt);
}

number_added : (s : Scope) (p : Pointed) (n : Numbering) → Added s n (with_number s p n)
number_added s p n =
    box_added s n p (beside s (spot_of s p.touched.at) (letters_of p.number) n.taken) (beside_free s (spot_of s p.touched.at) (letters_of p.number) n.taken)

both_added : (s : Scope) (n m o : Numbering) → Added s n m → Added s m o → Added s n o
both_added s n m o h k = record {
  more = h.more ++ k.more;
  numbers = k.numbers ∙ ap (λ l. l ++ k.more) h.numbers ∙ append_assoc n.numbers h.more k.more;
  taken = k.taken ∙ ap (λ l. l ++ areas k.more) h.taken ∙ append_assoc n.taken (areas h.more) (areas k.more)
      ∙ ap (λ l. n.taken ++ l) (sym (areas_more h.more k.more));
  apart = subst (λ l. StandApart s.wide n.taken l) (sym (areas_more h.more k.more))
      (more_apart s.wide n.taken (areas h.more) (areas k.more) h.apart (taken_apart s.wide m.taken (n.taken ++ areas h.more) (areas k.more) h.taken k.apart));
  there = there_more s h.more k.more h.there k.there;
}

all_added : (s : Scope) (points : List Pointed) (n : Numbering) → Added s n (with_numbers s points n)
all_added s [] n = none_added s n
all_added s (p ∷ ps) n =
    both_added s n (with_number s p n) (with_numbers s ps (with_number s p n)) (number_added s p n) (all_added s ps (with_number s p n))

pub numbers_apart : NumbersAreApart
numbers_apart s points taken =
    let h = all_added s points (record { taken = taken; numbers = [] }) in
    subst (λ l. StandApart s.wide taken (areas l)) (sym h.numbers) h.apart

pub numbers_there : NumbersStandThere
numbers_there s points taken =
    let h = all_added s points (record { taken = taken; numbers = [] }) in
    subst (λ l. AllByRecursion (StandsThere s) l) (sym h.numbers) h.there

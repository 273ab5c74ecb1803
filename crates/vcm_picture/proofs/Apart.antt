-- Names of a view stand apart.
use Rattle.std.proofs.Common.{◌≡◌, ◌∙◌, sym, ap, subst, refl, ℕ, ℤ, pos, ◌+ℤ◌, ◌*ℤ◌, Bool, true, false, cond, List, [], ◌∷◌, ◌++◌, map, length, decimal, find}
use Rattle.std.proofs.Common.{append_assoc, append-nil, option_to_list, IfSome, Some, None, if◌then◌else◌}
use Rattle.std.specs.Prelude.{Option}
use Rattle.vcm_num.specs.declared.point.Point.{Point}
use Rattle.vcm_report.specs.Printed.{name_at}
use Rattle.vcm_marks.specs.declared.mark.Contact.{Contact}
use Rattle.vcm_marks.specs.declared.mark.Mark.{Mark}
use Rattle.vcm_marks.specs.declared.mark.Mark.TheVariants.{Goes, Touches, Meets}
use Rattle.vcm_marks.specs.declared.mark.PlacedMark.{PlacedMark}
use Rattle.vcm_marks.specs.declared.mark.Touched.{Touched}
use Rattle.vcm_svg.specs.declared.rect.Rect.{Rect}
use Rattle.vcm_svg.specs.declared.rect.Spot.{Spot}
use Rattle.vcm_picture.specs.declared.names.Named.{Named}
use Rattle.vcm_picture.specs.Sights.{Scope}
use Rattle.vcm_picture.specs.Drawing.{names_beside}
use Rattle.vcm_picture.specs.Laws.{StandApart, NamesAreApart}
use Rattle.vcm_picture.specs.Names.{is_free, sides, beside, some_contact_box, is_at, end_box, first_names, with_first, all_figure_boxes, is_named, feature_box}
use Rattle.vcm_picture.specs.Names.{Naming, with_box, with_touched, with_mark, with_all_touched}
use Rattle.vcm_picture.specs.View.{spot_of}

-- what is known of a box that there may be
abbrev pub MayBeFree : ℤ → List Rect → Option Rect → Type 0
MayBeFree wide taken o = IfSome o (λ a. is_free a wide taken ≡ true)

free_or : (wide : ℤ) (taken : List Rect) (t : Bool) (a : Rect) (o : Option Rect) → is_free a wide taken ≡ t → MayBeFree wide taken o
    → MayBeFree wide taken (cond t (Some a) o)
free_or wide taken true a o e h = e
free_or wide taken false a o e h = h

found_free : (wide : ℤ) (taken boxes : List Rect) → MayBeFree wide taken (find (λ a. is_free a wide taken) boxes)
found_free wide taken [] = tt
found_free wide taken (a ∷ rest) = free_or wide taken (is_free a wide taken) a (find (λ a. is_free a wide taken) rest) refl (found_free wide taken rest)

pub beside_free : (s : Scope) (at : Spot) (letters : ℤ) (taken : List Rect) → MayBeFree s.wide taken (beside s at letters taken)
beside_free s at letters taken = found_free s.wide taken (sides at s.unit (pos 6 *ℤ letters *ℤ s.unit))

unless_free : (wide : ℤ) (taken : List Rect) (t : Bool) (o : Option Rect) → MayBeFree wide taken o → MayBeFree wide taken (if t then None else o)
unless_free wide taken true o h = tt
unless_free wide taken false o h = h

-- a box that is free stands apart
one_apart : (wide : ℤ) (taken : List Rect) (o : Option Rect) → MayBeFree wide taken o → StandApart wide taken (option_to_list o)
one_apart wide taken None h = tt
one_apart wide taken (Some a) h = (h, tt)

pub taken_apart : (wide : ℤ) (some other boxes : List Rect) → some ≡ other → StandApart wide some boxes → StandApart wide other boxes
taken_apart wide some other boxes e h = subst (λ t. StandApart wide t boxes) e h

-- boxes, and then boxes beside these
pub more_apart : (wide : ℤ) (taken some more : List Rect) → StandApart wide taken some → StandApart wide (taken ++ some) more → StandApart wide taken (some ++ more)
more_apart wide taken [] more h k = taken_apart wide (taken ++ []) taken more (append-nil taken) k
more_apart wide taken (a ∷ rest) more h k =
    (h.0, more_apart wide (taken ++ a ∷ []) rest more h.1 (taken_apart wide (taken ++ a ∷ rest) ((taken ++ a ∷ []) ++ rest) more (sym (append_assoc taken (a ∷ []) rest)) k))

contact_free : (s : Scope) (contact : Option Contact) → MayBeFree s.wide [] (some_contact_box s contact)
contact_free s None = tt
contact_free s (Some c) = beside_free s (spot_of s c.at) (pos 6 +ℤ pos (length (decimal c.block))) []

-- the names of the contact, of the end and of home
first_apart : (s : Scope) (contact : Option Contact) (position home : Point) → StandApart s.wide [] (with_first [] (first_names s contact position home []))
first_apart s contact position home =
    let c = some_contact_box s contact in
    let e = end_box s position home (option_to_list c) in
    let h = beside s (spot_of s home) (pos 4) (option_to_list c ++ option_to_list e) in
    more_apart s.wide [] (option_to_list c ++ option_to_list e) (option_to_list h)
    (more_apart s.wide [] (option_to_list c) (option_to_list e) (one_apart s.wide [] c (contact_free s contact))
    (one_apart s.wide (option_to_list c) e (unless_free s.wide (option_to_list c) (is_at position home) (beside s (spot_of s position) (pos 3) (option_to_list c))
    (beside_free s (spot_of s position) (pos 3) (option_to_list c)))))
    (one_apart s.wide (option_to_list c ++ option_to_list e) h (beside_free s (spot_of s home) (pos 4) (option_to_list c ++ option_to_list e)))

-- the boxes of names
abbrev pub areas : List Named → List Rect
areas named = map (λ n. n.area) named

areas_more : (some more : List Named) → areas (some ++ more) ≡ areas some ++ areas more
areas_more [] more = refl
areas_more (n ∷ ns) more = ap (λ l. n.area ∷ l) (areas_more ns more)

-- names that were added, and stand apart
pub record Added (wide : ℤ) (n m : Naming) : Type 0 where
  pub names : List Named
  pub named : m.named ≡ n.named ++ names
  pub taken : m.taken ≡ n.taken ++ areas names
  pub apart : StandApart wide n.taken (areas names)

none_added : (wide : ℤ) (n : Naming) → Added wide n n
none_added wide n = record { names = []; named = sym (append-nil n.named); taken = sym (append-nil n.taken); apart = tt }

box_added : (wide : ℤ) (n : Naming) (at : Spot) (i : ℕ) (o : Option Rect) → MayBeFree wide n.taken o → Added wide n (with_box n at i o)
box_added wide n at i None h = none_added wide n
box_added wide n at i (Some a) h = record { names = record { at = at; area = a; feature = i } ∷ []; named = refl; taken = refl; apart = (h, tt) }

touched_added : (s : Scope) (features : List (List ℕ)) (t : Touched) (n : Naming) → Added s.wide n (with_touched s features t n)
touched_added s features t n =
    let at = spot_of s t.at in
    let name = name_at features t.feature in
    box_added s.wide n at t.feature (feature_box s features at t.feature n.taken n.named)
    (unless_free s.wide n.taken (is_named features n.named at name) (beside s at (pos (length name)) n.taken)
    (beside_free s at (pos (length name)) n.taken))

mark_added : (s : Scope) (features : List (List ℕ)) (m : Mark) (n : Naming) → Added s.wide n (with_mark s features m n)
mark_added s features (Goes p) n = none_added s.wide n
mark_added s features (Touches t) n = touched_added s features t n
mark_added s features (Meets c) n = none_added s.wide n

both_added : (wide : ℤ) (n m o : Naming) → Added wide n m → Added wide m o → Added wide n o
both_added wide n m o h k = record {
  names = h.names ++ k.names;
  named = k.named ∙ ap (λ l. l ++ k.names) h.named ∙ append_assoc n.named h.names k.names;
  taken = k.taken ∙ ap (λ l. l ++ areas k.names) h.taken ∙ append_assoc n.taken (areas h.names) (areas k.names)
      ∙ ap (λ l. n.taken ++ l) (sym (areas_more h.names k.names));
  apart = subst (λ l. StandApart wide n.taken l) (sym (areas_more h.names k.names))
      (more_apart wide n.taken (areas h.names) (areas k.names) h.apart (taken_apart wide m.taken (n.taken ++ areas h.names) (areas k.names) h.taken k.apart));
}

all_added : (s : Scope) (features : List (List ℕ)) (marks : List PlacedMark) (n : Naming) → Added s.wide n (with_all_touched s features marks n)
all_added s features [] n = none_added s.wide n
all_added s features (m ∷ ms) n =
    both_added s.wide n (with_mark s features m.mark n) (with_all_touched s features ms (with_mark s features m.mark n)) (mark_added s features m.mark n)
    (all_added s features ms (with_mark s features m.mark n))

named_apart : (s : Scope) (features : List (List ℕ)) (marks : List PlacedMark) (taken : List Rect)
    → StandApart s.wide taken (areas (names_beside s features marks taken))
named_apart s features marks taken =
    let h = all_added s features marks (record { taken = taken; named = [] }) in
    subst (λ l. StandApart s.wide taken (areas l)) (sym h.named) h.apart

pub names_apart : NamesAreApart
names_apart s contact position home features marks seen = (
  first_apart s contact position home,
  named_apart s features marks (with_first [] (first_names s contact position home []) ++ all_figure_boxes seen),
)

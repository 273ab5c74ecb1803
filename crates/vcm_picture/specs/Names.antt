-- Names beside their points.
use Rattle.std.specs.Prelude.{ℕ, ℤ, pos, ◌+ℤ◌, ◌-ℤ◌, ◌*ℤ◌, Bool, ◌&&◌, not, int_le, nat_eq, if◌then◌else◌}
use Rattle.std.specs.Prelude.{List, [], ◌∷◌, ◌++◌, length, Option, Some, None, option_to_list, decimal}
use Rattle.std.specs.Cmp.Lexicographic.{pointwise}
use Rattle.std.specs.Ordering.{int_eq}
use Rattle.std.specs.List.{list_any, find, flat_map}
use Rattle.vcm_num.specs.declared.point.Point.{Point}
use Rattle.vcm_num.specs.Point.{coordinate, on_each}
use Rattle.vcm_report.specs.Printed.{name_at}
use Rattle.vcm_marks.specs.declared.mark.Contact.{Contact}
use Rattle.vcm_marks.specs.declared.mark.Mark.{Mark}
use Rattle.vcm_marks.specs.declared.mark.Mark.TheVariants.{Goes, Touches, Meets}
use Rattle.vcm_marks.specs.declared.mark.PlacedMark.{PlacedMark}
use Rattle.vcm_marks.specs.declared.mark.Touched.{Touched}
use Rattle.vcm_picture.specs.declared.names.FirstNames.{FirstNames}
use Rattle.vcm_picture.specs.declared.names.Named.{Named}
use Rattle.vcm_svg.specs.declared.rect.Rect.{Rect}
use Rattle.vcm_svg.specs.declared.rect.Spot.{Spot}
use Rattle.vcm_picture.specs.declared.shown.Seen.{Seen}
use Rattle.vcm_picture.specs.declared.shown.Shown.{Shown}
use Rattle.vcm_picture.specs.declared.shown.Shown.TheVariants.{Repeated, Hidden, Open}
use Rattle.vcm_picture.specs.Sights.{Scope}
use Rattle.vcm_svg.specs.Rect.{meets, boxed}
use Rattle.vcm_picture.specs.View.{spot_of}

-- whether a box lies in a view of that width and meets no box that is taken
abbrev pub is_free : Rect → ℤ → List Rect → Bool
is_free a wide taken = int_le (pos 0) a.left && int_le a.right wide && not (list_any (λ o. meets o a) taken)

-- the boxes beside a place for a text of that width, in the order in which they are tried
abbrev pub sides : Spot → ℤ → ℤ → List Rect
sides at u wide =
    boxed (at.x +ℤ pos 8 *ℤ u) (at.y -ℤ pos 13 *ℤ u) wide (pos 9 *ℤ u) ∷ boxed (at.x +ℤ pos 8 *ℤ u) (at.y +ℤ pos 4 *ℤ u) wide (pos 9 *ℤ u)
    ∷ boxed (at.x -ℤ pos 8 *ℤ u -ℤ wide) (at.y -ℤ pos 13 *ℤ u) wide (pos 9 *ℤ u)
    ∷ boxed (at.x -ℤ pos 8 *ℤ u -ℤ wide) (at.y +ℤ pos 4 *ℤ u) wide (pos 9 *ℤ u) ∷ []

-- the first box beside a place where a text of so many letters finds room
abbrev pub beside : Scope → Spot → ℤ → List Rect → Option Rect
beside s at letters taken = find (λ a. is_free a s.wide taken) (sides at s.unit (pos 6 *ℤ letters *ℤ s.unit))

-- the box of the contact's name, `block` and a blank and its number
abbrev pub contact_box : Scope → Contact → Option Rect
contact_box s c = beside s (spot_of s c.at) (pos 6 +ℤ pos (length (decimal c.block))) []

-- the same, if there is a contact
abbrev pub some_contact_box : Scope → Option Contact → Option Rect
some_contact_box s None = None
some_contact_box s (Some c) = contact_box s c

-- whether two points are one
abbrev pub is_at : Point → Point → Bool
is_at p q = on_each (λ k. int_eq (coordinate p k) (coordinate q k))

-- the box of the end's name, which there is where the end isn't at home
abbrev pub end_box : Scope → Point → Point → List Rect → Option Rect
end_box s position home taken = if is_at position home then None else beside s (spot_of s position) (pos 3) taken

-- the boxes of the contact, of the end and of home, of which the first ones are taken for the next
abbrev pub first_boxes : Scope → Option Contact → Point → Point → List Rect → Option Rect → Option Rect → FirstNames
first_boxes s contact position home taken c e = record {
  contact = c;
  end = e;
  home = beside s (spot_of s home) (pos 4) ((taken ++ option_to_list c) ++ option_to_list e);
}

-- the boxes of the names of the contact, of the end and of home, each beside those before it and beside what is taken
abbrev pub first_names : Scope → Option Contact → Point → Point → List Rect → FirstNames
first_names s contact position home taken =
    first_boxes s contact position home taken (some_contact_box s contact)
    (end_box s position home (taken ++ option_to_list (some_contact_box s contact)))

-- what is taken behind them
abbrev pub with_first : List Rect → FirstNames → List Rect
with_first taken f = ((taken ++ option_to_list f.contact) ++ option_to_list f.end) ++ option_to_list f.home

-- the box of a number, if there is one
abbrev pub figure_boxes : Shown → List Rect
figure_boxes Repeated = []
figure_boxes Hidden = []
figure_boxes (Open None) = []
figure_boxes (Open (Some f)) = f.area ∷ []

-- the boxes of all numbers
abbrev pub all_figure_boxes : List Seen → List Rect
all_figure_boxes ss = flat_map (λ s. figure_boxes s.shown) ss

-- whether a name is that of a feature which stands at a place
abbrev pub is_same_name : List (List ℕ) → Named → Spot → List ℕ → Bool
is_same_name features n at name =
    int_eq n.at.x at.x && int_eq n.at.y at.y && pointwise nat_eq (name_at features n.feature) name

-- whether the same name stands there
abbrev pub is_named : List (List ℕ) → List Named → Spot → List ℕ → Bool
is_named features named at name = list_any (λ n. is_same_name features n at name) named

-- the box of a feature's name at a place, if it isn't named there yet and finds room
abbrev pub feature_box : Scope → List (List ℕ) → Spot → ℕ → List Rect → List Named → Option Rect
feature_box s features at i taken named =
    if is_named features named at (name_at features i) then None else beside s at (pos (length (name_at features i))) taken

-- the boxes that are taken, and the names that stand
pub record Naming : Type 0 where
  pub taken : List Rect
  pub named : List Named

-- with a name in its box, if it has one
abbrev pub with_box : Naming → Spot → ℕ → Option Rect → Naming
with_box n at i None = n
with_box n at i (Some a) = record { taken = n.taken ++ a ∷ []; named = n.named ++ record { at = at; area = a; feature = i } ∷ [] }

-- with the name of a touched point
abbrev pub with_touched : Scope → List (List ℕ) → Touched → Naming → Naming
with_touched s features t n = with_box n (spot_of s t.at) t.feature (feature_box s features (spot_of s t.at) t.feature n.taken n.named)

-- the same of a mark
abbrev pub with_mark : Scope → List (List ℕ) → Mark → Naming → Naming
with_mark s features (Goes p) n = n
with_mark s features (Touches t) n = with_touched s features t n
with_mark s features (Meets c) n = n

-- with the names of all touched points, one after another
abbrev pub with_all_touched : Scope → List (List ℕ) → List PlacedMark → Naming → Naming
with_all_touched s features [] n = n
with_all_touched s features (m ∷ ms) n = with_all_touched s features ms (with_mark s features m.mark n)

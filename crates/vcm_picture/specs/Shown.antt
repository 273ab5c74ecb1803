-- Which blocks a view shows, how, and where their numbers stand.
use Rattle.std.specs.Prelude.{ℕ, ℤ, pos, ◌+◌, ◌+ℤ◌, ◌-ℤ◌, ◌*ℤ◌, Bool, ◌&&◌, ◌||◌, not, nat_lt, int_lt, if◌then◌else◌}
use Rattle.std.specs.Prelude.{List, [], ◌∷◌, map, length, Option, None, option_map, decimal}
use Rattle.std.specs.Int.{int_min, int_div_euclid}
use Rattle.std.specs.List.{list_any, find, flat_map}
use Rattle.std.specs.Ordering.{int_eq}
use Rattle.vcm_spec.specs.declared.workpiece.Block3.{Block3}
use Rattle.vcm_svg.specs.declared.rect.Rect.{Rect}
use Rattle.vcm_picture.specs.declared.shown.Face.{Face}
use Rattle.vcm_picture.specs.declared.shown.Figure.{Figure}
use Rattle.vcm_picture.specs.declared.shown.Seen.{Seen}
use Rattle.vcm_picture.specs.declared.shown.Shown.{Shown}
use Rattle.vcm_picture.specs.declared.shown.Shown.TheVariants.{Repeated, Hidden, Open}
use Rattle.vcm_picture.specs.Sights.{Scope}
use Rattle.vcm_svg.specs.Rect.{meets, contains, is_same, boxed, spot}
use Rattle.vcm_svg.specs.Shapes.{label}
use Rattle.vcm_svg.specs.declared.shapes.Lettering.TheVariants as lettering
use Rattle.vcm_picture.specs.View.{rect_of, nearness}

-- a block in a view
abbrev pub face_of : Scope → ℕ → Block3 → Face
face_of s n b = record { number = n; block = b; rect = rect_of s b.low b.high; near = nearness s.view b }

-- the blocks in a view, counted from n
abbrev pub faces_from : Scope → ℕ → List Block3 → List Face
faces_from s n [] = []
faces_from s n (b ∷ bs) = face_of s n b ∷ faces_from s (n + 1) bs

-- whether a block is nearer than another one: of two that are equally near the first is
abbrev pub is_nearer : Face → Face → Bool
is_nearer o f = int_lt f.near o.near || (int_eq f.near o.near && nat_lt o.number f.number)

-- whether it stands before the other one: it is nearer, and their rectangles meet
abbrev pub stands_before : Face → Face → Bool
stands_before o f = is_nearer o f && meets o.rect f.rect

-- the rectangle of a block, if it stands before another one
abbrev pub rect_before : Face → Face → List Rect
rect_before f o = if stands_before o f then o.rect ∷ [] else []

-- the rectangles of the blocks that stand before one
abbrev pub rects_before : Face → List Face → List Rect
rects_before f all = flat_map (rect_before f) all

-- whether one of some rectangles is the same
abbrev pub is_repeated : List Rect → Rect → Bool
is_repeated before r = list_any (λ o. is_same o r) before

-- whether one of them contains it
abbrev pub is_hidden : List Rect → Rect → Bool
is_hidden before r = list_any (λ o. contains o r) before

-- whether one of them meets it
abbrev pub is_covered : List Rect → Rect → Bool
is_covered before r = list_any (λ o. meets o r) before

-- the size of the letters of a number with so many digits
abbrev pub size_of : Rect → ℤ → ℤ → ℤ
size_of r digits unit =
    int_min unit (int_min (int_div_euclid (r.right -ℤ r.left) (pos 6 *ℤ digits +ℤ pos 4)) (int_div_euclid (r.bottom -ℤ r.top) (pos 11)))

-- the boxes in the four corners of a rectangle, in the order in which they are tried
abbrev pub corners : Rect → ℤ → ℤ → List Rect
corners r wide f =
    boxed (r.left +ℤ pos 2 *ℤ f) (r.top +ℤ f) wide (pos 9 *ℤ f) ∷ boxed (r.right -ℤ pos 2 *ℤ f -ℤ wide) (r.top +ℤ f) wide (pos 9 *ℤ f)
    ∷ boxed (r.left +ℤ pos 2 *ℤ f) (r.bottom -ℤ pos 10 *ℤ f) wide (pos 9 *ℤ f)
    ∷ boxed (r.right -ℤ pos 2 *ℤ f -ℤ wide) (r.bottom -ℤ pos 10 *ℤ f) wide (pos 9 *ℤ f) ∷ []

-- the first corner where a number finds room
abbrev pub room : List Rect → Rect → ℤ → ℤ → Option Rect
room before r wide size = find (λ a. not (is_covered before a)) (corners r wide size)

-- where a number stands whose letters have that size, in a box
abbrev pub figure_at : ℤ → Rect → Figure
figure_at size a = record { area = a; label = label lettering.Number size (spot a.left (a.top +ℤ pos 8 *ℤ size)) }

-- where the number of a block stands with letters of that size, if there is room
abbrev pub figure_with : List Rect → Rect → ℤ → ℤ → Option Figure
figure_with before r digits size =
    if int_lt size (pos 1) then None
    else option_map (figure_at size) (room before r (pos 6 *ℤ digits *ℤ size) size)

-- how many digits a number has
abbrev pub digits_of : ℕ → ℤ
digits_of n = pos (length (decimal n))

-- where the number of a block stands, if there is room
abbrev pub figure_of : List Rect → Face → ℤ → Option Figure
figure_of before f unit = figure_with before f.rect (digits_of f.number) (size_of f.rect (digits_of f.number) unit)

-- how a block is shown behind these rectangles
abbrev pub shown_of : List Rect → Face → ℤ → Shown
shown_of before f unit =
    if is_repeated before f.rect then Repeated else (if is_hidden before f.rect then Hidden else Open (figure_of before f unit))

-- a block among all, and how it is shown
abbrev pub seen_of : ℤ → List Face → Face → Seen
seen_of unit all f = record { face = f; shown = shown_of (rects_before f all) f unit }

-- how each of the blocks is shown
abbrev pub all_seen : ℤ → List Face → List Seen
all_seen unit all = map (seen_of unit all) all

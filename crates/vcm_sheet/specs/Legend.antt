-- What of the legend a sheet shows.
use Rattle.std.specs.Prelude.{true, List, [], ◌∷◌, if◌then◌else◌}
use Rattle.vcm_svg.specs.declared.shapes.Class.{Class}
use Rattle.vcm_svg.specs.declared.shapes.Class.TheVariants as class
use Rattle.vcm_picture.specs.declared.shapes.Shape.{Shape}
use Rattle.vcm_picture.specs.declared.shapes.Shape.TheVariants.{Path, Told, Text}
use Rattle.vcm_picture.specs.declared.shapes.Tip.{Tip}
use Rattle.vcm_picture.specs.declared.shapes.Tip.TheVariants as tip
use Rattle.vcm_picture.specs.Sights.{Scope}
use Rattle.vcm_sheet.specs.declared.legend.Used.{Used}
use Rattle.vcm_sheet.specs.Sight.{in_sight}

-- with what a path of this class shows
abbrev pub with_class : Used → Class → Used
with_class u class.Move = record (u) { moves = true }
with_class u class.Arrow = record (u) { moves = true }
with_class u class.Approach = record (u) { approach = true }
with_class u class.Search = record (u) { search = true }
with_class u class.Retract = record (u) { retract = true }
with_class u class.Rest = record (u) { rest = true }
with_class u class.Elsewhere = record (u) { elsewhere = true }
with_class u class.Touched = record (u) { touched = true }
with_class u class.Cross = record (u) { contact = true }
with_class u class.Limits = record (u) { limits = true }
with_class u class.Hidden = record (u) { hidden = true }
with_class u _ = u

-- with what a path shows whose tooltip tells this: home and the end have one class
abbrev pub with_told : Used → Class → Tip → Used
with_told u c (tip.Home p) = record (u) { home = true }
with_told u c (tip.End p) = record (u) { end = true }
with_told u c _ = with_class u c

-- with what a shape shows, if it is in sight
abbrev pub with_shape : Scope → Used → Shape → Used
with_shape s u (Path c o) = u
with_shape s u (Told c o t) = if in_sight s t then with_told u c t else u
with_shape s u (Text l w) = u

-- which marks stand in shapes of a view, or did before them
abbrev pub used_in : Scope → Used → List Shape → Used
used_in s u [] = u
used_in s u (x ∷ xs) = used_in s (with_shape s u x) xs

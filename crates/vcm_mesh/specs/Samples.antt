-- Worked examples of mesh files and of the numbers in them.
use Rattle.std.specs.Prelude.{◌≡◌, ℕ, pos, negsuc, List, [], ◌∷◌, codes, Result, Ok, Err}
use Rattle.vcm_num.specs.Point.{point}
use Rattle.vcm_spec.specs.declared.words.FrameAxis.TheVariants as axes
use Rattle.vcm_mesh.specs.declared.triangle.Triangle.{Triangle}
use Rattle.vcm_mesh.specs.declared.placing.Placing.{Placing}
use Rattle.vcm_mesh.specs.declared.placing.LengthUnit.TheVariants.{Millimetre}
use Rattle.vcm_mesh.specs.declared.fault.Misread.TheVariants.{NotANumber, TooFar}
use Rattle.vcm_mesh.specs.declared.fault.Refusal.{Refusal}
use Rattle.vcm_mesh.specs.declared.fault.Refusal.TheVariants.{NotStl, BadText, NoNumber, OutOfRange, NoTriangles}
use Rattle.vcm_mesh.specs.Lengths.{float_of, decimal_of}
use Rattle.vcm_mesh.specs.Placings.{no_turn, then_quarter}
use Rattle.vcm_mesh.specs.Meshes.{triangle, mesh_of}

-- a model in millimetres where the machine's origin is its own
abbrev pub in_place : Placing
in_place = record { unit = Millimetre; turn = no_turn; at = point (pos 0) (pos 0) (pos 0) }

-- what such a file gives
abbrev pub Spells : List ℕ → Result (List Triangle) Refusal → Type 0
Spells bytes read = mesh_of in_place bytes ≡ read

-- 25.4 mm as a number of 32 bits, which is 25.3999996..
abbrev pub NearestMicrometre : Type 0
NearestMicrometre = float_of 1000 1103835955 ≡ Ok (pos 25400)

-- an infinite number
abbrev pub Infinite : Type 0
Infinite = float_of 1000 2139095040 ≡ Err NotANumber

-- half a micrometre is rounded away from 0
abbrev pub HalfAway : Type 0
HalfAway = decimal_of 1000 (codes "-0.0005") ≡ Ok (negsuc 0)

-- an inch, with an exponent
abbrev pub OneInch : Type 0
OneInch = decimal_of 25400 (codes "+10.0e-1") ≡ Ok (pos 25400)

-- a number that no part of a machine reaches
abbrev pub FarAway : Type 0
FarAway = decimal_of 1000 (codes "1e99") ≡ Err TooFar

-- a text with one facet
abbrev pub facet_text : List ℕ
facet_text =
    codes "solid a\n facet normal 0 0 1\n  outer loop\n   vertex 0 0 0\n   vertex 1.5 0 0\n   vertex 0 2 -1\n  endloop\n endfacet\nendsolid a\n"

abbrev pub OneFacet : Type 0
OneFacet = Spells facet_text (Ok (triangle (point (pos 0) (pos 0) (pos 0)) (point (pos 1500) (pos 0) (pos 0)) (point (pos 0) (pos 2000) (negsuc 999)) ∷ []))

-- the same turned by a quarter about z, and moved
abbrev pub Turned : Type 0
Turned = mesh_of (record { unit = Millimetre; turn = then_quarter axes.Z no_turn; at = point (pos 10) (pos 20) (pos 30) }) facet_text
    ≡ Ok (triangle (point (pos 10) (pos 20) (pos 30)) (point (pos 10) (pos 1520) (pos 30)) (point (negsuc 1989) (pos 20) (negsuc 969)) ∷ [])

-- a text that ends within a solid
abbrev pub Cut : Type 0
Cut = Spells (codes "solid a\nfacet\nouter loop\n") (Err (BadText 4))

-- a coordinate that is no number
abbrev pub NoNumberThere : Type 0
NoNumberThere = Spells (codes "solid a\nfacet\nouter loop\nvertex 0 zero 0\n") (Err (NoNumber 1))

-- a kilometre and a micrometre
abbrev pub Beyond : Type 0
Beyond = Spells (codes "solid a\nfacet\nouter loop\nvertex 0 0 1000000.001\n") (Err (OutOfRange 1))

-- a solid without facets
abbrev pub Nothing : Type 0
Nothing = Spells (codes "solid\nendsolid\n") (Err NoTriangles)

-- another format
abbrev pub Other : Type 0
Other = Spells (codes "ISO-10303-21;") (Err NotStl)

-- The corners of a model's triangles, as covers see them.
use Rattle.std.specs.Prelude.{List, map}
use Rattle.vcm_num.specs.Point.{coordinate}
use Rattle.vcm_mesh.specs.declared.triangle.Triangle.{Triangle}
use Rattle.vcm_covering.specs.Parting.{Corners}

-- the corners of a triangle
abbrev pub corners_of : Triangle → Corners
corners_of t = record { a = coordinate t.a; b = coordinate t.b; c = coordinate t.c }

-- those of a list of triangles
abbrev pub corners : List Triangle → List Corners
corners ts = map corners_of ts

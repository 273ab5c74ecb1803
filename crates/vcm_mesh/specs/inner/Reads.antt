-- What the steps of reading answer inside this crate.
use Rattle.std.specs.Prelude.{◌≡◌, true, false, nat_lt, List, length, Result, Ok, Err}
use Rattle.vcm_mesh.specs.declared.triangle.Triangle.{Triangle}
use Rattle.vcm_mesh.specs.declared.fault.Refusal.{Refusal}
use Rattle.vcm_mesh.specs.declared.fault.Refusal.TheVariants.{TooManyTriangles}
use Rattle.vcm_mesh.specs.declared.fault.MeshFault.{MeshFault}
use Rattle.vcm_mesh.specs.declared.fault.MeshFault.TheVariants.{NoMemory, Refused}
use Rattle.vcm_mesh.specs.declared.text.Place.{Place}
use Rattle.vcm_mesh.specs.Meshes.{Read, Fails}

-- what was read of a text, of these triangles and this place
abbrev pub read_so_far : List Triangle → Place → Read
read_so_far ts place = record { triangles = ts; place = place }

-- these triangles are kept, if they are no more than a million
abbrev pub TookTriangle : {A : Type 0} → List Triangle → Result A MeshFault → List Triangle → Type 0
TookTriangle all (Ok u) ts = (ts ≡ all) × (nat_lt 1000000 (length all) ≡ false)
TookTriangle all (Err NoMemory) ts = Unit {0}
TookTriangle all (Err (Refused r)) ts = (r ≡ TooManyTriangles) × (nat_lt 1000000 (length all) ≡ true)

-- the same of a line: the place is answered, and the triangles are these now
abbrev pub TookLine : Result Read Refusal → Result Place MeshFault → List Triangle → Type 0
TookLine read (Ok place) ts = read ≡ Ok (read_so_far ts place)
TookLine read (Err e) ts = Fails e read

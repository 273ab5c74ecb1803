use Rattle.std.proofs.Common.{◌≡◌, ◌+◌, ◌-◌, []}
use Rattle.vcm_mesh.specs.Meshes.{facets_behind}
use Rattle.vcm_mesh.proofs.binary.facets.Given as goal

abbrev pub invariant-loop-index : goal.invariant-loop-index
invariant-loop-index l =
    facets_behind l.placing l.bytes l.triangles.items (l.count - l.index) (l.index + 1) ≡ facets_behind l.placing l.bytes [] l.count 1

use Rattle.std.proofs.Common.{◌≡◌, ◌+◌, ◌≤◌, length, []}
use Rattle.std.specs.Str.Lines.{lines}
use Rattle.vcm_mesh.specs.declared.text.Place.TheVariants.{Outside}
use Rattle.vcm_mesh.specs.Meshes.{read_lines}
use Rattle.vcm_mesh.specs.inner.Reads.{read_so_far}
use Rattle.vcm_mesh.proofs.text.text_mesh.Given as goal

abbrev pub invariant-loop-rest : goal.invariant-loop-rest
invariant-loop-rest l = record {
  few : length l.triangles.items ≤ 1000000;
  room : l.line + length l.rest ≤ 50000085;
  read : read_lines l.placing l.line (read_so_far l.triangles.items l.place) (lines l.rest) ≡ read_lines l.placing 1 (read_so_far [] Outside) (lines l.bytes);
}

abbrev pub decreases-loop-rest : goal.decreases-loop-rest
decreases-loop-rest l = length l.rest

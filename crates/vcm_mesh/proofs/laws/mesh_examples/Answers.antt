use Rattle.std.proofs.Common.{refl}
use Rattle.vcm_mesh.specs.Lengths.{decimal_of}
use Rattle.vcm_mesh.specs.Meshes.{mesh_of, read_lines, read_line, next_place}
use Rattle.vcm_mesh.proofs.laws.mesh_examples.Goals as goal

pub returns-clause-nearest_micrometre : goal.returns-clause-nearest_micrometre
returns-clause-nearest_micrometre c = refl

pub returns-clause-infinite : goal.returns-clause-infinite
returns-clause-infinite c = refl

pub returns-clause-half_away : goal.returns-clause-half_away
unfolding decimal_of
returns-clause-half_away c = refl

pub returns-clause-one_inch : goal.returns-clause-one_inch
unfolding decimal_of
returns-clause-one_inch c = refl

pub returns-clause-far_away : goal.returns-clause-far_away
unfolding decimal_of
returns-clause-far_away c = refl

pub returns-clause-one_facet : goal.returns-clause-one_facet
unfolding mesh_of read_lines read_line next_place decimal_of
returns-clause-one_facet c = refl

pub returns-clause-turned : goal.returns-clause-turned
unfolding mesh_of read_lines read_line next_place decimal_of
returns-clause-turned c = refl

pub returns-clause-cut : goal.returns-clause-cut
unfolding mesh_of read_lines read_line next_place decimal_of
returns-clause-cut c = refl

pub returns-clause-no_number_there : goal.returns-clause-no_number_there
unfolding mesh_of read_lines read_line next_place decimal_of
returns-clause-no_number_there c = refl

pub returns-clause-beyond : goal.returns-clause-beyond
unfolding mesh_of read_lines read_line next_place decimal_of
returns-clause-beyond c = refl

pub returns-clause-nothing : goal.returns-clause-nothing
unfolding mesh_of read_lines read_line next_place decimal_of
returns-clause-nothing c = refl

pub returns-clause-other : goal.returns-clause-other
unfolding mesh_of read_lines read_line next_place decimal_of
returns-clause-other c = refl

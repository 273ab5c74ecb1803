use Rattle.std.proofs.Common.{[], None, sym, ◌∙◌}
use Rattle.std.specs.String.{string_bytes}
use Rattle.vcm_blocks.proofs.Joins.{is_added, alone_is, mesh_is}
use Rattle.vcm_blocks.proofs.writing.write_alone.Goals as goal

pub returns-clause-added : goal.returns-clause-added
returns-clause-added g c =
    is_added None _ _ (λ w. string_bytes w.text) c.bounds_round.result [] c.deref-2.result.now c.write_job.result
    (mesh_is _ _ _ _ c.in_ok-triangles.ensures c.deref-2.ensures.value)
    (alone_is c.bounds_round.result _ _ _ c.bounds_round.ensures c.box_of-around.ensures (c.deref.ensures.value ∙ sym c.deref-2.ensures.value)) c.write_job.ensures.added

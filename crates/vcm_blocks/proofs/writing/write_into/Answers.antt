use Rattle.std.proofs.Common.{Some}
use Rattle.std.specs.String.{string_bytes}
use Rattle.vcm_blocks.proofs.Joins.{is_added, base_is, mesh_is}
use Rattle.vcm_blocks.proofs.writing.write_into.Goals as goal

pub returns-clause-added : goal.returns-clause-added
returns-clause-added g c =
    is_added (Some c.args.part.now) _ _ (λ w. string_bytes w.text) c.bounds.result c.blocks-2.result.now c.deref.result.now c.write_job.result
    (mesh_is _ _ _ _ c.in_ok-triangles.ensures c.deref.ensures.value)
    (base_is c.args.part.now c.in_ok-base.base _ _ c.in_ok-base.ensures c.bounds.ensures.bounds c.blocks-2.ensures.blocks) c.write_job.ensures.added

use Rattle.std.proofs.Common.{List, subst}
use Rattle.vcm_spec.specs.declared.workpiece.Block3.{Block3}
use Rattle.vcm_covering.specs.Covering.{Covers}
use Rattle.vcm_cover.specs.Models.{corners}
use Rattle.vcm_cover.proofs.making.cover.Goals as goal

pub returns-clause-covers : goal.returns-clause-covers
returns-clause-covers c =
    subst (λ (bs : List Block3). Covers bs (corners c.args.triangles.now)) c.as_slice-3.ensures.value (c.all_held.ensures c.if-not-all_held.false)

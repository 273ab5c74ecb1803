-- Workpieces with other blocks.
use Rattle.std.specs.Prelude.{Bool, ◌&&◌, not, nat_le, List, length}
use Rattle.std.specs.List.{list_all}
use Rattle.vcm_num.specs.Point.{coordinate}
use Rattle.vcm_num.specs.declared.limits.TheConstants.{MOST_BLOCKS}
use Rattle.vcm_spec.specs.declared.workpiece.Block3.{Block3}
use Rattle.vcm_spec.specs.Workpiece.{Workpiece, is_block, is_some_met}

-- the same machine and tip with these blocks
abbrev pub with_blocks : List Block3 → Workpiece → Workpiece
with_blocks blocks part = record { bounds = part.bounds; blocks = blocks }

-- whether a workpiece may have these blocks: they are at most 4,096, each in range with its corners in order, and at home the tip meets none
abbrev pub may_have : Workpiece → List Block3 → Bool
may_have part blocks =
    nat_le (length blocks) MOST_BLOCKS && (list_all is_block blocks && not (is_some_met part.bounds.tip blocks (coordinate part.bounds.home)))

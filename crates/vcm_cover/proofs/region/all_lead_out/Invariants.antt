use Rattle.std.proofs.Common.{take}
use Rattle.std.specs.List.{All}
use Rattle.vcm_cover.specs.inner.Regions.{IsWayOut}
use Rattle.vcm_cover.proofs.region.all_lead_out.Given as goal

abbrev pub invariant-loop-index : goal.invariant-loop-index
invariant-loop-index l = All (IsWayOut l.blocks) (take l.index l.regions)

use Rattle.std.proofs.Common.{IfSome}
use Rattle.vcm_covering.specs.Covering.{Covers}
use Rattle.vcm_cover.specs.Models.{corners}
use Rattle.vcm_blocks.proofs.series.in_series.Given as goal

abbrev pub invariant-loop-within : goal.invariant-loop-within
invariant-loop-within g l = IfSome l.found (λ f. Covers f.blocks.items (corners l.search.triangles.now))

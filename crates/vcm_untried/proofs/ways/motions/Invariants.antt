use Rattle.std.proofs.Common.{◌≡◌, drop}
use Rattle.vcm_untried.specs.Marking.{motions_behind, motions}
use Rattle.vcm_untried.proofs.ways.motions.Given as goal

abbrev pub invariant-loop-row : goal.invariant-loop-row
invariant-loop-row l = record { all : motions_behind l.sum (drop l.row-index l.rows) ≡ motions l.rows }

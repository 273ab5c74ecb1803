use Rattle.std.proofs.Common.{◌≡◌, ◌++◌, drop}
use Rattle.vcm_views.specs.Untried.{flagged}
use Rattle.vcm_views.proofs.untried.flagged.Given as goal

abbrev pub invariant-loop-placed : goal.invariant-loop-placed
invariant-loop-placed l = record { all : l.all.items ++ flagged l.elsewhere (drop l.placed-index l.marks) ≡ flagged l.elsewhere l.marks }

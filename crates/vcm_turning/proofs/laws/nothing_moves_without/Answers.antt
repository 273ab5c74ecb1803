use Rattle.vcm_turning.proofs.Held.{nothing_moves, ways_by_probes}
use Rattle.vcm_turning.proofs.laws.nothing_moves_without.Goals as goal

pub returns-clause-steps : goal.returns-clause-steps
returns-clause-steps c = nothing_moves

pub returns-clause-ways : goal.returns-clause-ways
returns-clause-ways c = ways_by_probes

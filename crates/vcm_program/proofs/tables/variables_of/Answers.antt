use Rattle.std.proofs.Common.{arith}
use Rattle.vcm_program.proofs.Tabling.{there, one_more, all_taken}
use Rattle.vcm_program.proofs.tables.variables_of.Goals as goal

pub loop-variable-preserved : goal.loop-variable-preserved
loop-variable-preserved c =
    let l = c.loop-variable in
    let below = there l.index c.args.names.now _ c.in-Some.ensures.some in
    record {
      done = rw c.in_ok-push.ensures.ok (one_more l.variables c.in-Some.variable l.index c.args.names.now l.invariant.done c.in-Some.ensures.some);
      within = omega (arith, below);
    }

pub returns-clause-same : goal.returns-clause-same
returns-clause-same c =
    let l = c.loop-variable in
    all_taken l.variables l.index c.args.names.now l.invariant.done c.in_default.ensures.none

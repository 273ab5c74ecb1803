use Rattle.std.proofs.Common.{arith}
use Rattle.vcm_program.proofs.Tabling.{there, one_more, all_taken}
use Rattle.vcm_program.proofs.tables.names_of.Goals as goal

pub loop-name-preserved : goal.loop-name-preserved
loop-name-preserved c =
    let l = c.loop-name in
    let below = there l.index c.args.titles.now _ c.in-Some.ensures.some in
    record {
      done = rw (c.in_ok-push.ensures.ok, c.copy.ensures) (one_more l.names _ l.index c.args.titles.now l.invariant.done c.in-Some.ensures.some);
      within = omega (arith, below);
    }

pub returns-clause-same : goal.returns-clause-same
returns-clause-same c =
    let l = c.loop-name in
    all_taken l.names l.index c.args.titles.now l.invariant.done c.in_default.ensures.none

use Rattle.std.proofs.Common.{rules}
use Rattle.vcm_debug.proofs.session.Session.new.Goals as goal

pub invariant_of-result : goal.invariant_of-result
invariant_of-result g c = (
  record {
    reached = c.in_ok-machine.ensures;
    statements = search rules;
    variables = search rules;
    room = search rules;
    fits = c.statement_count-statements.ensures.fits;
  },
  c.in_ok-checkpoints.ensures (g.P.Part.part c.args.part.now) c.args.loaded.now,
)

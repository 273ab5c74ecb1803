use Rattle.std.proofs.Common.{rules}
use Rattle.vcm_set_debug.proofs.session.SetSession.new.Goals as goal

pub invariant_of-result : goal.invariant_of-result
invariant_of-result g c = record {
  statements = search rules;
  variables = search rules;
  room = search rules;
  fits = search rules;
}

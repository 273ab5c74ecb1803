use Rattle.std.proofs.Common.{arith, rules}
use Rattle.vcm_keys.proofs.Reading.{read_all}
use Rattle.vcm_keys.proofs.placing.read_text.Goals as goal

pub returns : goal.returns
returns c = read_all c.loop-rest.reader _ c.loop-rest.rest.now (grind (arith, rules, c.loop-rest-test.false)) c.loop-rest.invariant

use Rattle.std.proofs.Common.{arith}
use Rattle.vcm_backtrace.proofs.Putting.{set_past}
use Rattle.vcm_backtrace.proofs.standing.put_at.Goals as goal

pub returns-else-place-len : goal.returns-else-place-len
returns-else-place-len c = set_past c.args.values.now.items c.args.place c.args.value (let past = c.if-place-len.false in let many = c.len.ensures in omega (arith, past, many))

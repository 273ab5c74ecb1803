use Rattle.vcm_whole.proofs.Refusing.{converted_refused}
use Rattle.vcm_whole.proofs.whole.build_converted.Goals as goal

pub returns-clause-refused : goal.returns-clause-refused
returns-clause-refused c = λ ls read same. converted_refused c.args.choices.now c.args.text.now c.args.lengths ls c.in-Err.fault
    (rw c.in-Ok.ensures at (rw c.deref.ensures.value at c.in-Err.ensures.fault)) read same

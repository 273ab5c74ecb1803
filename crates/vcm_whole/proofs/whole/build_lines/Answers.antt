use Rattle.vcm_whole.proofs.Refusing.{shape_refused}
use Rattle.vcm_whole.proofs.whole.build_lines.Goals as goal

pub returns-in-Ok-Some-clause-refused : goal.returns-in-Ok-Some-clause-refused
returns-in-Ok-Some-clause-refused c = λ read. shape_refused c.args.choices.now c.args.text.now c.args.lengths c.args.lines.now c.in-Ok-Some.fault
    (rw c.in-Ok-Some.field-0-is at c.in-Ok-Some.ensures) read

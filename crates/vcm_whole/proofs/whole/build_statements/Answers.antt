use Rattle.vcm_whole.proofs.Refusing.{expansion_refused, put_refused}
use Rattle.vcm_whole.proofs.whole.build_statements.Goals as goal

pub returns-in-Err-clause-refused : goal.returns-in-Err-clause-refused
returns-in-Err-clause-refused c = λ read. expansion_refused c.args.choices.now c.args.text.now c.args.reading.lengths c.args.lines.now c.args.statements.items
    c.in-Err.fault c.requires.statements c.in-Err.ensures.fault read

pub returns-in-Err-build_program-clause-refused : goal.returns-in-Err-build_program-clause-refused
returns-in-Err-build_program-clause-refused c = λ read. put_refused c.args.choices.now c.args.text.now c.args.reading.lengths c.args.lines.now c.args.statements.items
    c.deref-3.result.now c.in-Ok-expand.expanded.items c.in-Ok-noted.notices.items c.in-Err-build_program.refusal c.requires.statements c.deref-3.ensures.value
    c.in-Ok-noted.ensures c.in-Ok-expand.ensures.ok c.requires.shaped c.in-Err-build_program.ensures.refused read

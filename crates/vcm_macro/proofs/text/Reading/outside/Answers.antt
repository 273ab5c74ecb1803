use Rattle.vcm_forms.specs.declared.statement.Form.TheVariants.{Macro, Call}
use Rattle.vcm_macro.proofs.Texts.{told_of}
use Rattle.vcm_macro.proofs.text.Reading.outside.Goals as goal

pub returns-in-Macro-clause-fault : goal.returns-in-Macro-clause-fault
returns-in-Macro-clause-fault c = told_of c.begin.result c.args.self.now c.args.statement (Macro c.in-Macro.name c.in-Macro.parameters) c.in-Macro.is
    (rw (c.in-Macro.name-is, c.in-Macro.parameters-is) at c.begin.ensures.fault)

pub returns-in-Call-clause-fault : goal.returns-in-Call-clause-fault
returns-in-Call-clause-fault c = told_of c.call.result c.args.self.now c.args.statement (Call c.in-Call.name c.in-Call.written) c.in-Call.is
    (rw (c.as_slice.ensures, c.in-Call.name-is, c.in-Call.written-is) at c.call.ensures.fault)

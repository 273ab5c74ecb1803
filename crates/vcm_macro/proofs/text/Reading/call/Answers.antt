use Rattle.vcm_macro.proofs.Texts.{call_told, told_on}
use Rattle.vcm_macro.proofs.text.Reading.call.Goals as goal

pub returns-clause-fault : goal.returns-clause-fault
returns-clause-fault c =
    told_on c.call.result _ _ (λ f. call_told c.args.self.now c.args.line c.args.name.now c.args.written.now f c.requires c.if-self.false)
    (rw (c.deref.ensures.value, c.new-outside.ensures) at c.call.ensures.fault)

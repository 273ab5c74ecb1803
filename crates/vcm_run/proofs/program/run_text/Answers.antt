use Rattle.vcm_run.proofs.program.run_text.Goals as goal

pub returns-in-Ok-clause-next : goal.returns-in-Ok-clause-next
returns-in-Ok-clause-next g c = (let next = rw c.deref.ensures.value at c.in-Ok.ensures.next in next c.args.program.now c.in_ok-image.ensures.built)

use Rattle.vcm_job.proofs.inputs.summary_of_input.Goals as goal

pub returns-in-Ok-clause-run : goal.returns-in-Ok-clause-run
returns-in-Ok-clause-run c = c.run_beside.ensures.run c.args.input.items c.in-Ok.ensures.given

pub returns-in-Ok-clause-refused : goal.returns-in-Ok-clause-refused
returns-in-Ok-clause-refused c = c.run_beside.ensures.refused c.args.input.items c.in-Ok.ensures.given

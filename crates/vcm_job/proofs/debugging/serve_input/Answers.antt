use Rattle.vcm_job.proofs.debugging.serve_input.Goals as goal

pub returns-in-Ok-clause-done : goal.returns-in-Ok-clause-done
returns-in-Ok-clause-done g c = c.serve_given.ensures.done c.args.input.items c.in-Ok.ensures.given

pub returns-in-Ok-clause-fault : goal.returns-in-Ok-clause-fault
returns-in-Ok-clause-fault g c = c.serve_given.ensures.fault c.args.input.items c.in-Ok.ensures.given

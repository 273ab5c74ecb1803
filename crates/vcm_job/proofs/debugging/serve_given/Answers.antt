use Rattle.vcm_job.proofs.DebugLemmas.{debugged_of}
use Rattle.vcm_job.proofs.GivenLemmas.{built_short}
use Rattle.vcm_job.proofs.debugging.serve_given.Goals as goal

pub returns-in-Ok-clause-done : goal.returns-in-Ok-clause-done
returns-in-Ok-clause-done g c = λ input is.
    let done = rw c.deref.ensures.value at c.in-Ok.ensures.done in
    debugged_of _ _ _ _ _ _ _ _ tt is.image_is done

pub returns-then-is_some-clause-fault : goal.returns-then-is_some-clause-fault
returns-then-is_some-clause-fault g c = λ input is.
    let fault = rw c.deref.ensures.value at c.in-Err.ensures.fault in
    rw c.built_fault.ensures (built_short _ input c.args.given.image.items c.args.given.text c.args.given.notices.items _ _ _ _ is c.in-Err.fault fault)

use Rattle.vcm_job.proofs.GivenLemmas.{run_given, refused_given}
use Rattle.vcm_job.proofs.inputs.run_given.Goals as goal

pub returns-in-Ok-clause-run : goal.returns-in-Ok-clause-run
returns-in-Ok-clause-run g c = λ input is.
    let of_image = rw c.deref.ensures.value at c.in-Ok.ensures.image in
    let of_text = rw c.deref.ensures.value at c.in-Ok.ensures.text in
    run_given (g.P.Part.part c.args.part.now) input c.args.given.image.items _ c.args.given.notices.items c.args.steps c.in-Ok.summary is of_image of_text

pub returns-clause-refused : goal.returns-clause-refused
returns-clause-refused g c = λ input is.
    let refused = rw c.deref.ensures.value at c.in-Err.ensures.refused in
    rw (c.judged.ensures, c.is_some.ensures) (refused_given input c.args.given.image.items c.args.given.text c.args.given.notices.items c.in-Err.fault is refused)

use Rattle.vcm_job.proofs.GivenLemmas.{listed_given, unlisted_given}
use Rattle.vcm_job.proofs.listing.listing_of.Goals as goal

pub returns-in-Ok-clause-listed : goal.returns-in-Ok-clause-listed
returns-in-Ok-clause-listed c = λ input is.
    let printed = rw c.deref.ensures.value at c.in-Ok.ensures.printed in
    listed_given input c.args.given.image.items c.in-Ok.listing.items _ c.args.given.notices.items is printed

pub returns-clause-refused : goal.returns-clause-refused
returns-clause-refused c = λ input is.
    let refused = rw c.deref.ensures.value at c.in-Err.ensures.refused in
    rw (c.judged.ensures, c.is_some.ensures) (unlisted_given input c.args.given.image.items c.args.given.text c.args.given.notices.items c.in-Err.fault is refused)

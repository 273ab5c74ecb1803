use Rattle.vcm_job.proofs.listing.listing_of_input.Goals as goal

pub returns-in-Ok-clause-listed : goal.returns-in-Ok-clause-listed
returns-in-Ok-clause-listed c = c.listing_of.ensures.listed c.args.input.items c.in-Ok.ensures.given

pub returns-in-Ok-clause-refused : goal.returns-in-Ok-clause-refused
returns-in-Ok-clause-refused c = c.listing_of.ensures.refused c.args.input.items c.in-Ok.ensures.given

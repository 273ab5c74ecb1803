use Rattle.vcm_contacts.proofs.Leads.{lead_sound}
use Rattle.vcm_contacts.proofs.leading.lead.Goals as goal

pub returns-clause-sound : goal.returns-clause-sound
returns-clause-sound g c =
    rw c.lead_of.ensures (lead_sound c.args.blocks.now c.bounds-bounds.ensures.valid c.args.world.now.state c.args.world.now.tables c.args.statement.now.op
    c.requires.fits c.args.phase c.args.hit c.requires.ends)

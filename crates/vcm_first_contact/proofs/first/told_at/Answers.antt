use Rattle.std.proofs.Common.{refl}
use Rattle.vcm_first_contact.proofs.Firsts.{told_is}
use Rattle.vcm_first_contact.proofs.first.told_at.Goals as goal

pub returns : goal.returns
returns c p m placed met = told_is c.args.place c.args.gone.now p c.args.met m placed met _ refl

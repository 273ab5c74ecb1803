use Rattle.vcm_first_contact.proofs.Passes.{num_small, den_small}
use Rattle.vcm_first_contact.proofs.entry.reached.Goals as goal

pub returns-clause-small : goal.returns-clause-small
returns-clause-small c = record {
  pass = c.requires.pass;
  num = num_small c.args.pass.now c.requires.pass c.args.axis c.requires.axis _ c.requires.face _ c.abs_diff.ensures;
  den = den_small c.args.pass.now c.requires.pass c.args.axis c.requires.axis _ c.abs_diff-2.ensures;
}

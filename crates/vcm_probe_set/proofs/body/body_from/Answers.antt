use Rattle.vcm_probe_set.proofs.Bodies.{valid_from}
use Rattle.vcm_probe_set.proofs.body.body_from.Goals as goal

pub invariant_of-result : goal.invariant_of-result
invariant_of-result c = rw c.in_ok-blocks.ensures (valid_from c.args.first.now c.args.others.now c.requires.few c.requires.valid)

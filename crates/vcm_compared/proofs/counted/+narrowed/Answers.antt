use Rattle.vcm_compared.proofs.Steps.{narrowed_goes}
use Rattle.vcm_compared.proofs.counted.+narrowed.Goals as goal

pub returns : goal.returns
returns m c =
    rw (narrowed_goes c.args.left c.args.lines.now c.args.texts c.if-left-eq0.false c.in_ok-are_followed.ensures c.if-branch.false c.in_ok-held.ensures c.with_held-2.ensures)
    c.narrowed.ensures

use Rattle.std.proofs.lemmas.Result.{err_from_is_err_and}
use Rattle.vcm_contacts.proofs.Leads.{lost_at}
use Rattle.vcm_contacts.proofs.leading.feature_at.Goals as goal

pub returns-in_err-at : goal.returns-in_err-at
returns-in_err-at c =
    let p = err_from_is_err_and c.from_residual-in_err-at.result c.from_residual-in_err-at.ensures.1 in
    rw (p.1, p.2) (lost_at c.args.world.now.state c.args.feature c.args.given c.args.touched _ _ c.in_ok-toward.ensures (rw c.frame.ensures at c.in_err-at.ensures.answer))

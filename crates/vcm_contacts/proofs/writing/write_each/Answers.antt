use Rattle.std.proofs.lemmas.Result.{err_from_is_err_and}
use Rattle.vcm_contacts.proofs.Lines.{one_more, cut_off, all_written}
use Rattle.vcm_contacts.proofs.writing.write_each.Goals as goal

pub returns-in_err-write_found : goal.returns-in_err-write_found
returns-in_err-write_found g c =
    let p = err_from_is_err_and c.from_residual.result c.from_residual.ensures.1 in
    rw p.1 (cut_off c.args.contacts.now c.loop-found.found-index _ _ c.loop-found.invariant.written _ c.loop-found-test.true _ (rw c.found-item.is at c.in_err-write_found.ensures))

pub loop-found-preserved : goal.loop-found-preserved
loop-found-preserved g c =
    record { written = one_more c.args.contacts.now c.loop-found.found-index _ _ c.loop-found.invariant.written _ c.loop-found-test.true _ (rw c.found-item.is at c.in_ok-write_found.ensures) }

pub returns : goal.returns
returns g c = all_written c.args.contacts.now c.loop-found.found-index _ _ c.loop-found.invariant.written c.loop-found-test.false

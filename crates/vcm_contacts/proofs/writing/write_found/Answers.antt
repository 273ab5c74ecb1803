use Rattle.std.proofs.Common.{refl}
use Rattle.std.proofs.lemmas.Result.{err_from_is_err_and}
use Rattle.vcm_naming.specs.Naming.{plain}
use Rattle.vcm_naming.proofs.Pages.{adds_front_first, added_then, plain_added}
use Rattle.vcm_contacts.proofs.writing.write_found.Goals as goal

pub returns-in_err-write_named : goal.returns-in_err-write_named
returns-in_err-write_named g c =
    let p = err_from_is_err_and c.from_residual.result c.from_residual.ensures.1 in
    rw p.1 (adds_front_first _ _ _ _ _ refl c.in_err-write_named.ensures)

pub returns : goal.returns
returns g c = added_then _ _ _ _ _ _ _ refl c.in_ok-write_named.ensures (plain_added _ _ _ _ _ (rw c.deref.ensures.value at c.write_all.ensures))

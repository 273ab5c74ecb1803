use Rattle.std.proofs.Common.{refl, [], ◌∷◌}
use Rattle.std.proofs.lemmas.Result.{err_from_is_err_and}
use Rattle.vcm_naming.specs.Naming.{plain}
use Rattle.vcm_naming.proofs.Pages.{adds_front_first, added_then, plain_added}
use Rattle.vcm_clearance.specs.inner.Here.{here_text}
use Rattle.vcm_clearance.proofs.printing.write_whole_contact.Goals as goal

pub returns-in_err-write_named_contact : goal.returns-in_err-write_named_contact
returns-in_err-write_named_contact g c =
    let p = err_from_is_err_and c.from_residual.result c.from_residual.ensures.1 in
    rw p.1 (adds_front_first _ _ _ (plain (here_text c.args.here.now) ∷ []) _ refl c.in_err-write_named_contact.ensures)

pub returns : goal.returns
returns g c = added_then _ _ _ _ _ _ _ refl c.in_ok-write_named_contact.ensures (plain_added (here_text c.args.here.now) _ _ _ _ c.write_here.ensures)

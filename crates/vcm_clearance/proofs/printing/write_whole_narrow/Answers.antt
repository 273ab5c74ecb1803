use Rattle.std.proofs.Common.{refl, [], ◌∷◌}
use Rattle.std.proofs.lemmas.Result.{err_from_is_err_and}
use Rattle.vcm_naming.specs.Naming.{plain}
use Rattle.vcm_naming.proofs.Pages.{adds_front_first, added_then, plain_added}
use Rattle.vcm_clearance.specs.inner.Here.{past_text}
use Rattle.vcm_clearance.proofs.printing.write_whole_narrow.Goals as goal

pub returns-in_err-write_named_narrow : goal.returns-in_err-write_named_narrow
returns-in_err-write_named_narrow g c =
    let p = err_from_is_err_and c.from_residual.result c.from_residual.ensures.1 in
    let b = c.args.behind.now in
    rw p.1 (adds_front_first _ _ _ (plain (past_text b.source.now b.loaded.now.statements b.tables.now c.args.kept.now c.args.told.now.number) ∷ []) _ refl c.in_err-write_named_narrow.ensures)

pub returns : goal.returns
returns g c =
    let b = c.args.behind.now in
    added_then _ _ _ _ _ _ _ refl c.in_ok-write_named_narrow.ensures
    (plain_added (past_text b.source.now b.loaded.now.statements b.tables.now c.args.kept.now c.args.told.now.number) _ _ _ _ c.write_behind.ensures)

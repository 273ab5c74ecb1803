use Rattle.std.proofs.Common.{refl}
use Rattle.std.proofs.lemmas.Result.{err_from_is_err_and}
use Rattle.vcm_naming.specs.Naming.{plain}
use Rattle.vcm_naming.proofs.Pages.{adds_front_first, added_then, line_cut, plain_adds}
use Rattle.vcm_clearance.specs.Printed.{clear_line, narrow_line}
use Rattle.vcm_clearance.specs.inner.Here.{past_text}
use Rattle.vcm_clearance.proofs.printing.write_clear.Goals as goal

pub returns-in_err-write_clear_line : goal.returns-in_err-write_clear_line
returns-in_err-write_clear_line g c =
    let p = err_from_is_err_and c.from_residual.result c.from_residual.ensures.1 in
    let text = clear_line c.args.name.now c.args.by in
    let b = c.args.behind.now in
    rw p.1 (adds_front_first _ _ _ (narrow_line (λ t. past_text b.source.now b.loaded.now.statements b.tables.now c.args.kept.now t.number) c.args.name.now c.args.by c.args.told) _ refl (line_cut (plain text) c.args.names.now _ _ _ c.in_err-write_clear_line.ensures))

pub returns : goal.returns
returns g c =
    let text = clear_line c.args.name.now c.args.by in
    added_then _ _ _ _ _ _ _ refl (plain_adds text c.args.names.now _ _ c.in_ok-write_clear_line.ensures) c.write_narrow.ensures

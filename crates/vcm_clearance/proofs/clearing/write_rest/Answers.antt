use Rattle.std.proofs.Common.{refl, [], ◌∷◌}
use Rattle.std.proofs.lemmas.Result.{err_from_is_err_and}
use Rattle.vcm_naming.specs.Naming.{last_line}
use Rattle.vcm_naming.proofs.Pages.{adds_front_first, added_then}
use Rattle.vcm_clearance.proofs.clearing.write_rest.Goals as goal

pub returns-in_err-write_boxes : goal.returns-in_err-write_boxes
returns-in_err-write_boxes g c =
    let p = err_from_is_err_and c.from_residual.result c.from_residual.ensures.1 in
    let w = c.args.world.now in
    rw p.1 (adds_front_first _ _ _ (last_line w.tables w.state.stop c.args.done ∷ []) _ refl c.in_err-write_boxes.ensures)

pub returns : goal.returns
returns g c = added_then _ _ _ _ _ _ _ refl c.in_ok-write_boxes.ensures c.write_end.ensures

use Rattle.std.proofs.Common.{refl, [], ◌∷◌, ◌++◌}
use Rattle.std.proofs.lemmas.Result.{err_from_is_err_and}
use Rattle.vcm_naming.specs.Naming.{plain, last_line}
use Rattle.vcm_naming.proofs.Pages.{adds_front_first, added_then, line_cut, plain_adds}
use Rattle.vcm_clearance.specs.Printed.{ways_text}
use Rattle.vcm_clearance.specs.inner.Here.{past_text, kept_lines}
use Rattle.vcm_clearance.proofs.clearing.write_summary.Goals as goal

pub returns-in_err-write_ways : goal.returns-in_err-write_ways
returns-in_err-write_ways g c =
    let p = err_from_is_err_and c.from_residual.result c.from_residual.ensures.1 in
    let w = c.args.world.now in
    let b = c.args.behind.now in
    let rest = kept_lines (past_text b.source.now b.loaded.now.statements b.tables.now) c.args.boxes.now c.args.rooms.now c.args.kept.now ++ last_line w.tables w.state.stop c.args.done ∷ [] in
    rw p.1 (adds_front_first _ _ _ rest _ refl (line_cut (plain (ways_text c.args.untried.now c.args.count)) c.args.names.now _ _ _ c.in_err-write_ways.ensures))

pub returns : goal.returns
returns g c =
    added_then _ _ _ _ _ _ _ refl (plain_adds (ways_text c.args.untried.now c.args.count) c.args.names.now _ _ c.in_ok-write_ways.ensures) c.write_rest.ensures

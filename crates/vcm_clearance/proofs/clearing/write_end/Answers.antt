use Rattle.std.proofs.lemmas.Result.{err_from_is_err_and}
use Rattle.vcm_naming.specs.Naming.{last_line}
use Rattle.vcm_naming.proofs.Pages.{line_added, line_cut}
use Rattle.vcm_clearance.proofs.clearing.write_end.Goals as goal

pub returns-in_err-write_end_line : goal.returns-in_err-write_end_line
returns-in_err-write_end_line g c =
    let p = err_from_is_err_and c.from_residual.result c.from_residual.ensures.1 in
    let w = c.args.world.now in
    rw p.1 (line_cut (last_line w.tables w.state.stop c.args.done) c.args.names.now _ _ _ (rw (c.stop-stop.ensures, c.tables.ensures) at c.in_err-write_end_line.ensures))

pub returns : goal.returns
returns g c =
    let w = c.args.world.now in
    line_added (last_line w.tables w.state.stop c.args.done) c.args.names.now _ _ _ _ _ (rw (c.stop-stop.ensures, c.tables.ensures) at c.in_ok-write_end_line.ensures)
    (rw (c.block_at_end.ensures, c.stop-stop.ensures) at c.write_once.ensures.written) (rw (c.block_at_end.ensures, c.stop-stop.ensures) at c.write_once.ensures.ok)

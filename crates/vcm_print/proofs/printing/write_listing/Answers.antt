use Rattle.std.proofs.lemmas.Result.{err_from_is_err_and}
use Rattle.vcm_print.proofs.Whole.{fault_head, fault_variables, fault_features, fault_frames, wrote_whole}
use Rattle.vcm_print.proofs.printing.write_listing.Goals as goal

pub returns-in_err-write_heading : goal.returns-in_err-write_heading
returns-in_err-write_heading g c =
    let p = err_from_is_err_and c.from_residual.result c.from_residual.ensures.1 in
    rw p.1 (fault_head _ _ c.args.loaded.now c.in_err-write_heading.ensures)

pub returns-in_err-write_variables : goal.returns-in_err-write_variables
returns-in_err-write_variables g c =
    let p = err_from_is_err_and c.from_residual-in_err-write_variables.result c.from_residual-in_err-write_variables.ensures.1 in
    rw p.1 (fault_variables _ _ _ c.args.loaded.now c.in_ok-write_heading.ensures c.in_err-write_variables.ensures)

pub returns-in_err-write_features : goal.returns-in_err-write_features
returns-in_err-write_features g c =
    let p = err_from_is_err_and c.from_residual-in_err-write_features.result c.from_residual-in_err-write_features.ensures.1 in
    rw p.1 (fault_features _ _ _ _ c.args.loaded.now c.in_ok-write_heading.ensures c.in_ok-write_variables.ensures c.in_err-write_features.ensures)

pub returns-in_err-write_frames : goal.returns-in_err-write_frames
returns-in_err-write_frames g c =
    let p = err_from_is_err_and c.from_residual-in_err-write_frames.result c.from_residual-in_err-write_frames.ensures.1 in
    rw p.1 (fault_frames _ _ _ _ _ c.args.loaded.now c.in_ok-write_heading.ensures c.in_ok-write_variables.ensures c.in_ok-write_features.ensures c.in_err-write_frames.ensures)

pub returns : goal.returns
returns g c =
    wrote_whole _ _ _ _ _ _ c.args.loaded.now _ c.in_ok-write_heading.ensures c.in_ok-write_variables.ensures c.in_ok-write_features.ensures c.in_ok-write_frames.ensures c.write_statements.ensures

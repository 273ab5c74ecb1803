use Rattle.std.proofs.Common.{arith}
use Rattle.vcm_rows.proofs.code_rows.write_listing_row.Goals as goal

pub overflow_add-before : goal.overflow_add-before
overflow_add-before g c =
    let r = c.known_valid.ensures.fits.range in
    omega (arith, r.features.0, r.frames.0, c.feature_count.ensures, c.frame_count.ensures)

pub overflow_add-before-2 : goal.overflow_add-before-2
overflow_add-before-2 g c =
    let r = c.known_valid.ensures.fits.range in
    omega (arith, r.variables.0, r.features.0, r.frames.0, c.variable_count.ensures, c.feature_count.ensures, c.frame_count.ensures)

pub overflow_add-before-3 : goal.overflow_add-before-3
overflow_add-before-3 g c =
    let r = c.known_valid.ensures.fits.range in
    omega (arith, r.variables.0, r.features.0, r.frames.0, c.variable_count.ensures, c.feature_count.ensures, c.frame_count.ensures)

use Rattle.std.proofs.Common.{arith, ap, length}
use Rattle.vcm_listing.proofs.ReadLaws.{rows_length}
use Rattle.vcm_listing.proofs.reading.line_count.Goals as goal

pub returns : goal.returns
returns c = omega (arith, rows_length c.args.code.now, ap length c.variables.ensures, ap length c.features.ensures, ap length c.frames.ensures, c.len.ensures)

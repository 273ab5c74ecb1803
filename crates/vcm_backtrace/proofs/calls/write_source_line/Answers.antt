use Rattle.std.proofs.Common.{sym}
use Rattle.vcm_backtrace.proofs.calls.write_source_line.Goals as goal

pub returns : goal.returns
returns g c = rw (sym c.source.view_is) c.write_line.ensures

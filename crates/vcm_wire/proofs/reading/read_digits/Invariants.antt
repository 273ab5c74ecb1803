use Rattle.std.proofs.Common.{◌<◌}
use Rattle.vcm_wire.proofs.Digits.{IsCounted}
use Rattle.vcm_wire.proofs.reading.read_digits.Given as goal

abbrev pub invariant-loop-count : goal.invariant-loop-count
invariant-loop-count g l = record {
  counted : IsCounted (g.R.Read.remaining l.fn.reader) (g.R.Read.remaining l.reader) l.number l.count;
  small : l.number < 100000000;
}

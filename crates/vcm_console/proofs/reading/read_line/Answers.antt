use Rattle.std.proofs.Common.{arith}
use Rattle.vcm_console.proofs.LinesRead.{one_more_read, too_long}
use Rattle.vcm_console.proofs.reading.read_line.Goals as goal

pub loop-used-preserved : goal.loop-used-preserved
loop-used-preserved g c = record {
  within = omega (arith, c.loop-used-test.true);
  bytes =
      one_more_read (g.R.Read.remaining c.args.reader.now) (g.R.Read.remaining c.loop-used.reader) (g.R.Read.remaining c.next_byte.new.reader) c.loop-used.kept
      c.push.new.self c.loop-used.used c.in-Ok-Some.byte
      c.loop-used.invariant.bytes (rw c.in-Ok-Some.field-0-is at c.in-Ok-Some.ensures) c.if-byte-eq10.false c.push.ensures;
}

pub returns-in-Ok-Some-next_byte-clause-line : goal.returns-in-Ok-Some-next_byte-clause-line
returns-in-Ok-Some-next_byte-clause-line g c =
    too_long c.args.left (g.R.Read.remaining c.args.reader.now) (g.R.Read.remaining c.loop-used.reader) (g.R.Read.remaining c.next_byte-2.new.reader) c.loop-used.kept c.loop-used.used _
    (omega (arith, c.loop-used.invariant.within, c.loop-used-test.false)) c.loop-used.invariant.bytes (rw c.in-Ok-Some-next_byte.field-0-is at c.in-Ok-Some-next_byte.ensures)

use Rattle.std.proofs.Common.{◌≡◌, ◌-◌, zero, suc, Ok, Err, subst, arith}
use Rattle.vcm_console.specs.declared.reply.ServeFault.TheVariants.{Write, TooMuch}
use Rattle.vcm_set_debug.specs.Serving.{Served}
use Rattle.vcm_debug.proofs.ServedLines.{over}
use Rattle.vcm_set_debug.proofs.ServedLines.{Going, all_set_out, exchanged, none_left, none_behind, last_exchanged, fault_exchanged, fault_read, more_lines, no_next}
use Rattle.vcm_set_debug.proofs.serving.serve_lines.Goals as goal

pub loop-lines-init : goal.loop-lines-init
loop-lines-init g c = record {
  count = c.requires.count;
  bytes = omega arith;
  going = all_set_out c.args.lines c.args.bytes c.args.session.now (g.R.Read.remaining c.args.reader.now) (g.W.Write.contents c.args.writer.now);
}

pub returns-in-Err : goal.returns-in-Err
returns-in-Err g c =
    let n : c.loop-lines.lines ≡ suc (c.loop-lines.lines - 1) = omega (arith, c.loop-lines-test.true) in
    over (g.R.Read.remaining c.args.reader.now)
    (λ input. Going c.args.lines c.args.bytes c.args.session.now (g.W.Write.contents c.args.writer.now) input c.loop-lines.lines c.loop-lines.left
    c.loop-lines.session (g.R.Read.remaining c.loop-lines.reader) (g.W.Write.contents c.loop-lines.writer))
    (λ input. Served c.args.lines c.args.bytes c.args.session.now input (g.R.Read.remaining c.read_line.new.reader) (g.W.Write.contents c.args.writer.now)
    (g.W.Write.contents c.loop-lines.writer) (Err c.in-Err.fault) c.loop-lines.session)
    (λ input k. fault_read c.args.lines c.args.bytes c.args.session.now (g.W.Write.contents c.args.writer.now) input (c.loop-lines.lines - 1) c.loop-lines.left
    c.loop-lines.session (g.R.Read.remaining c.loop-lines.reader) (g.R.Read.remaining c.read_line.new.reader) (g.W.Write.contents c.loop-lines.writer)
    c.in-Err.fault (subst (λ m. Going c.args.lines c.args.bytes c.args.session.now (g.W.Write.contents c.args.writer.now) input m c.loop-lines.left
    c.loop-lines.session (g.R.Read.remaining c.loop-lines.reader) (g.W.Write.contents c.loop-lines.writer)) n k) c.in-Err.ensures.line
    c.in-Err.ensures.faults) c.loop-lines.invariant.going

pub returns-in-Ok-None : goal.returns-in-Ok-None
returns-in-Ok-None g c =
    over (g.R.Read.remaining c.args.reader.now)
    (λ input. Going c.args.lines c.args.bytes c.args.session.now (g.W.Write.contents c.args.writer.now) input c.loop-lines.lines c.loop-lines.left
    c.loop-lines.session (g.R.Read.remaining c.loop-lines.reader) (g.W.Write.contents c.loop-lines.writer))
    (λ input. Served c.args.lines c.args.bytes c.args.session.now input (g.R.Read.remaining c.read_line.new.reader) (g.W.Write.contents c.args.writer.now)
    (g.W.Write.contents c.bye.new.writer) c.bye.result c.loop-lines.session)
    (λ input k. none_left c.args.lines c.args.bytes c.args.session.now (g.W.Write.contents c.args.writer.now) input c.loop-lines.lines c.loop-lines.left
    c.loop-lines.session (g.R.Read.remaining c.loop-lines.reader) (g.R.Read.remaining c.read_line.new.reader) (g.W.Write.contents c.loop-lines.writer)
    (g.W.Write.contents c.bye.new.writer) c.bye.result k (rw c.in-Ok-None.field-0-is at c.in-Ok-None.ensures.line) c.bye.ensures)
    c.loop-lines.invariant.going

pub returns-in-Ok-true : goal.returns-in-Ok-true
returns-in-Ok-true g c =
    let n : c.loop-lines.lines ≡ suc (c.loop-lines.lines - 1) = omega (arith, c.loop-lines-test.true) in
    over (g.R.Read.remaining c.args.reader.now)
    (λ input. Going c.args.lines c.args.bytes c.args.session.now (g.W.Write.contents c.args.writer.now) input c.loop-lines.lines c.loop-lines.left
    c.loop-lines.session (g.R.Read.remaining c.loop-lines.reader) (g.W.Write.contents c.loop-lines.writer))
    (λ input. Served c.args.lines c.args.bytes c.args.session.now input (g.R.Read.remaining c.read_line.new.reader) (g.W.Write.contents c.args.writer.now)
    (g.W.Write.contents c.answer.new.writer) (Ok tt) c.answer.new.session)
    (λ input k. last_exchanged c.args.lines c.args.bytes c.args.session.now (g.W.Write.contents c.args.writer.now) input (c.loop-lines.lines - 1)
    c.loop-lines.left c.loop-lines.session c.answer.new.session (g.R.Read.remaining c.loop-lines.reader) (g.R.Read.remaining c.read_line.new.reader)
    (g.W.Write.contents c.loop-lines.writer) (g.W.Write.contents c.answer.new.writer) c.in-Ok-Some.line
    (subst (λ m. Going c.args.lines c.args.bytes c.args.session.now (g.W.Write.contents c.args.writer.now) input m c.loop-lines.left c.loop-lines.session
    (g.R.Read.remaining c.loop-lines.reader) (g.W.Write.contents c.loop-lines.writer)) n k) (rw c.in-Ok-Some.field-0-is at c.in-Ok-Some.ensures.line)
    (rw (c.content.ensures, c.as_slice.ensures, c.in-Ok-true.field-0-test) at c.in-Ok-true.ensures.exchange)) c.loop-lines.invariant.going

pub loop-lines-preserved : goal.loop-lines-preserved
loop-lines-preserved g c =
    let n : c.loop-lines.lines ≡ suc (c.loop-lines.lines - 1) = omega (arith, c.loop-lines-test.true) in
    let few = c.in-Ok-false.ensures.few in
    let i = c.loop-lines.invariant.count in
    let b = c.loop-lines.invariant.bytes in
    record {
      count = omega (arith, i, few, n);
      bytes = omega (arith, b);
      going =
          over (g.R.Read.remaining c.args.reader.now)
          (λ input. Going c.args.lines c.args.bytes c.args.session.now (g.W.Write.contents c.args.writer.now) input c.loop-lines.lines c.loop-lines.left
          c.loop-lines.session (g.R.Read.remaining c.loop-lines.reader) (g.W.Write.contents c.loop-lines.writer))
          (λ input. Going c.args.lines c.args.bytes c.args.session.now (g.W.Write.contents c.args.writer.now) input (c.loop-lines.lines - 1)
          (c.loop-lines.left - c.in-Ok-Some.line.used) c.answer.new.session (g.R.Read.remaining c.read_line.new.reader)
          (g.W.Write.contents c.answer.new.writer))
          (λ input k. exchanged c.args.lines c.args.bytes c.args.session.now (g.W.Write.contents c.args.writer.now) input (c.loop-lines.lines - 1)
          c.loop-lines.left c.loop-lines.session c.answer.new.session (g.R.Read.remaining c.loop-lines.reader) (g.R.Read.remaining c.read_line.new.reader)
          (g.W.Write.contents c.loop-lines.writer) (g.W.Write.contents c.answer.new.writer) c.in-Ok-Some.line
          (subst (λ m. Going c.args.lines c.args.bytes c.args.session.now (g.W.Write.contents c.args.writer.now) input m c.loop-lines.left
          c.loop-lines.session (g.R.Read.remaining c.loop-lines.reader) (g.W.Write.contents c.loop-lines.writer)) n k)
          (rw c.in-Ok-Some.field-0-is at c.in-Ok-Some.ensures.line)
          (rw (c.content.ensures, c.as_slice.ensures, c.in-Ok-false.field-0-test) at c.in-Ok-false.ensures.exchange)) c.loop-lines.invariant.going;
    }

pub returns-in-Err-answer : goal.returns-in-Err-answer
returns-in-Err-answer g c =
    let n : c.loop-lines.lines ≡ suc (c.loop-lines.lines - 1) = omega (arith, c.loop-lines-test.true) in
    over (g.R.Read.remaining c.args.reader.now)
    (λ input. Going c.args.lines c.args.bytes c.args.session.now (g.W.Write.contents c.args.writer.now) input c.loop-lines.lines c.loop-lines.left
    c.loop-lines.session (g.R.Read.remaining c.loop-lines.reader) (g.W.Write.contents c.loop-lines.writer))
    (λ input. Served c.args.lines c.args.bytes c.args.session.now input (g.R.Read.remaining c.read_line.new.reader) (g.W.Write.contents c.args.writer.now)
    (g.W.Write.contents c.answer.new.writer) (Err Write) c.answer.new.session)
    (λ input k. fault_exchanged c.args.lines c.args.bytes c.args.session.now (g.W.Write.contents c.args.writer.now) input (c.loop-lines.lines - 1)
    c.loop-lines.left c.loop-lines.session c.answer.new.session (g.R.Read.remaining c.loop-lines.reader) (g.R.Read.remaining c.read_line.new.reader)
    (g.W.Write.contents c.loop-lines.writer) (g.W.Write.contents c.answer.new.writer) c.in-Ok-Some.line c.in-Err-answer.field-0
    (subst (λ m. Going c.args.lines c.args.bytes c.args.session.now (g.W.Write.contents c.args.writer.now) input m c.loop-lines.left c.loop-lines.session
    (g.R.Read.remaining c.loop-lines.reader) (g.W.Write.contents c.loop-lines.writer)) n k) (rw c.in-Ok-Some.field-0-is at c.in-Ok-Some.ensures.line)
    (rw (c.content.ensures, c.as_slice.ensures) at c.in-Err-answer.ensures.exchange)) c.loop-lines.invariant.going

pub returns-in-Err-next_byte : goal.returns-in-Err-next_byte
returns-in-Err-next_byte g c =
    let n : c.loop-lines.lines ≡ zero = omega (arith, c.loop-lines-test.false) in
    over (g.R.Read.remaining c.args.reader.now)
    (λ input. Going c.args.lines c.args.bytes c.args.session.now (g.W.Write.contents c.args.writer.now) input c.loop-lines.lines c.loop-lines.left
    c.loop-lines.session (g.R.Read.remaining c.loop-lines.reader) (g.W.Write.contents c.loop-lines.writer))
    (λ input. Served c.args.lines c.args.bytes c.args.session.now input (g.R.Read.remaining c.next_byte.new.reader) (g.W.Write.contents c.args.writer.now)
    (g.W.Write.contents c.loop-lines.writer) (Err c.in-Err-next_byte.fault) c.loop-lines.session)
    (λ input k. no_next c.args.lines c.args.bytes c.args.session.now (g.W.Write.contents c.args.writer.now) input c.loop-lines.left c.loop-lines.session
    (g.R.Read.remaining c.loop-lines.reader) (g.R.Read.remaining c.next_byte.new.reader) (g.W.Write.contents c.loop-lines.writer) c.in-Err-next_byte.fault
    (subst (λ m. Going c.args.lines c.args.bytes c.args.session.now (g.W.Write.contents c.args.writer.now) input m c.loop-lines.left c.loop-lines.session
    (g.R.Read.remaining c.loop-lines.reader) (g.W.Write.contents c.loop-lines.writer)) n k) c.in-Err-next_byte.ensures) c.loop-lines.invariant.going

pub returns-in-Ok-Some-next_byte : goal.returns-in-Ok-Some-next_byte
returns-in-Ok-Some-next_byte g c =
    let n : c.loop-lines.lines ≡ zero = omega (arith, c.loop-lines-test.false) in
    over (g.R.Read.remaining c.args.reader.now)
    (λ input. Going c.args.lines c.args.bytes c.args.session.now (g.W.Write.contents c.args.writer.now) input c.loop-lines.lines c.loop-lines.left
    c.loop-lines.session (g.R.Read.remaining c.loop-lines.reader) (g.W.Write.contents c.loop-lines.writer))
    (λ input. Served c.args.lines c.args.bytes c.args.session.now input (g.R.Read.remaining c.next_byte.new.reader) (g.W.Write.contents c.args.writer.now)
    (g.W.Write.contents c.loop-lines.writer) (Err TooMuch) c.loop-lines.session)
    (λ input k. more_lines c.args.lines c.args.bytes c.args.session.now (g.W.Write.contents c.args.writer.now) input c.loop-lines.left _ c.loop-lines.session
    (g.R.Read.remaining c.loop-lines.reader) (g.R.Read.remaining c.next_byte.new.reader) (g.W.Write.contents c.loop-lines.writer)
    (subst (λ m. Going c.args.lines c.args.bytes c.args.session.now (g.W.Write.contents c.args.writer.now) input m c.loop-lines.left c.loop-lines.session
    (g.R.Read.remaining c.loop-lines.reader) (g.W.Write.contents c.loop-lines.writer)) n k)
    (rw c.in-Ok-Some-next_byte.field-0-is at c.in-Ok-Some-next_byte.ensures)) c.loop-lines.invariant.going

pub returns-in-Ok-None-next_byte : goal.returns-in-Ok-None-next_byte
returns-in-Ok-None-next_byte g c =
    let n : c.loop-lines.lines ≡ zero = omega (arith, c.loop-lines-test.false) in
    over (g.R.Read.remaining c.args.reader.now)
    (λ input. Going c.args.lines c.args.bytes c.args.session.now (g.W.Write.contents c.args.writer.now) input c.loop-lines.lines c.loop-lines.left
    c.loop-lines.session (g.R.Read.remaining c.loop-lines.reader) (g.W.Write.contents c.loop-lines.writer))
    (λ input. Served c.args.lines c.args.bytes c.args.session.now input (g.R.Read.remaining c.next_byte.new.reader) (g.W.Write.contents c.args.writer.now)
    (g.W.Write.contents c.bye-in-Ok-None-next_byte.new.writer) c.bye-in-Ok-None-next_byte.result c.loop-lines.session)
    (λ input k. none_behind c.args.lines c.args.bytes c.args.session.now (g.W.Write.contents c.args.writer.now) input c.loop-lines.left c.loop-lines.session
    (g.R.Read.remaining c.loop-lines.reader) (g.R.Read.remaining c.next_byte.new.reader) (g.W.Write.contents c.loop-lines.writer)
    (g.W.Write.contents c.bye-in-Ok-None-next_byte.new.writer) c.bye-in-Ok-None-next_byte.result
    (subst (λ m. Going c.args.lines c.args.bytes c.args.session.now (g.W.Write.contents c.args.writer.now) input m c.loop-lines.left c.loop-lines.session
    (g.R.Read.remaining c.loop-lines.reader) (g.W.Write.contents c.loop-lines.writer)) n k)
    (rw c.in-Ok-None-next_byte.field-0-is at c.in-Ok-None-next_byte.ensures) c.bye-in-Ok-None-next_byte.ensures) c.loop-lines.invariant.going

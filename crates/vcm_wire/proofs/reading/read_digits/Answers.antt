use Rattle.std.proofs.Common.{◌≡◌, ◌∙◌, sym, true, false, arith}
use Rattle.std.specs.Char.{is_ascii_digit}
use Rattle.vcm_wire.proofs.Digits.{one_more, small, ended, other_end, too_long}
use Rattle.vcm_wire.proofs.reading.read_digits.Goals.{else-byte-eq13-via-then-byte-eq13+else-count-gt0, else-byte-eq13-via-else-byte-eq13}
use Rattle.vcm_wire.proofs.reading.read_digits.Goals as goal

pub returns-then-count-gt0 : goal.returns-then-count-gt0
returns-then-count-gt0 g c =
    ended _ _ _ c.loop-count.number c.loop-count.count c.loop-count.invariant.counted (rw c.if-byte-eq13.true at c.in_ok-byte.ensures) c.if-count-gt0.true (omega (arith, c.loop-count-test.true))

pub returns-then-not-is_ascii_digit : goal.returns-then-not-is_ascii_digit
returns-then-not-is_ascii_digit g c =
    let other : is_ascii_digit c.in_ok-byte.byte ≡ false = sym c.is_ascii_digit.ensures.value ∙ c.if-not-is_ascii_digit.true in
    other_end _ _ _ c.loop-count.number c.loop-count.count c.in_ok-byte.byte c.loop-count.invariant.counted c.in_ok-byte.ensures other
    (λ e l. elim c.else-byte-eq13.branch [ else-byte-eq13-via-then-byte-eq13+else-count-gt0 w ↦ omega (arith, l, w.if-count-gt0.false) | else-byte-eq13-via-else-byte-eq13 w ↦ w.if-byte-eq13.false e ])

pub loop-count-preserved : goal.loop-count-preserved
loop-count-preserved g c =
    let digit : is_ascii_digit c.in_ok-byte.byte ≡ true = sym c.is_ascii_digit.ensures.value ∙ c.if-not-is_ascii_digit.false in
    let more = one_more _ _ _ c.loop-count.number c.loop-count.count c.in_ok-byte.byte c.loop-count.invariant.counted c.in_ok-byte.ensures digit in
    record {
      counted = rw c.from.ensures more;
      small = rw c.from.ensures (small _ _ _ _ more (omega (arith, c.loop-count-test.true)));
    }

pub returns : goal.returns
returns g c = too_long _ _ c.loop-count.number c.loop-count.count c.loop-count.invariant.counted (omega (arith, c.loop-count-test.false))

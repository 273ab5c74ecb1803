use Rattle.std.proofs.Common.{inr, refl, arith}
use Rattle.vcm_syntax.proofs.Shifting.{shift_alone, shift_goes}
use Rattle.vcm_syntax.proofs.offsets.offsets.Goals as goal

pub returns-then-fields-place-lt2 : goal.returns-then-fields-place-lt2
returns-then-fields-place-lt2 c =
    let l = c.shifts in
    rw c.bad_syntax.ensures (inr (refl, shift_alone c.args.fields.now l.place l.offsets l.invariant c.shifts-test.true c.if-fields-place-lt2.true))

pub shifts-preserved : goal.shifts-preserved
shifts-preserved c =
    let l = c.shifts in
    shift_goes c.args.fields.now l.place l.offsets _ _ _ c.in_ok-offset.offset l.invariant (omega (arith, c.shifts-test.true, c.if-fields-place-lt2.false))
    c.index-fields-place.is c.index-fields-place-in-shifts.is (rw c.as_slice.ensures at c.in_ok-offset.ensures) c.in_ok-push.ensures.ok

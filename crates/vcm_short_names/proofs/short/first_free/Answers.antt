use Rattle.std.proofs.Common.{◌≡◌, true, false, arith}
use Rattle.vcm_short_names.specs.Short.{is_taken}
use Rattle.vcm_short_names.proofs.Free.{ends_here, goes_on, ends_nowhere}
use Rattle.vcm_short_names.proofs.short.first_free.Goals as goal

pub returns-then-not-is_taken : goal.returns-then-not-is_taken
returns-then-not-is_taken c =
    let free : is_taken c.args.pieces.now c.args.names.now c.in_ok-short.short ≡ false = cc (c.is_taken.ensures, c.as_slice.ensures) in
    ends_here c.args.pieces.now c.args.names.now c.args.long.now c.args.most c.loop-number.number c.in_ok-short.short c.loop-number.invariant.left c.loop-number-test.true c.in_ok-short.ensures free

pub loop-number-preserved : goal.loop-number-preserved
loop-number-preserved c =
    let taken : is_taken c.args.pieces.now c.args.names.now c.in_ok-short.short ≡ true = cc (c.is_taken.ensures, c.as_slice.ensures) in
    record { left = goes_on c.args.pieces.now c.args.names.now c.args.long.now c.args.most c.loop-number.number c.in_ok-short.short c.loop-number.invariant.left c.in_ok-short.ensures taken }

pub returns : goal.returns
returns c =
    ends_nowhere c.args.pieces.now c.args.names.now c.args.long.now c.args.most c.loop-number.number c.loop-number.invariant.left (omega arith) (omega arith)

use Rattle.std.proofs.Common.{◌∙◌, sym, arith}
use Rattle.std.proofs.lemmas.List.{take_more}
use Rattle.vcm_num.proofs.Reading.{AllDigits-push}
use Rattle.vcm_num.proofs.read.split_digits.Goals as goal

pub loop-n-preserved : goal.loop-n-preserved
loop-n-preserved c =
    let digit = sym c.is_ascii_digit.ensures.value ∙ c.if-is_ascii_digit.true in
    (omega arith, rw (take_more c.args.bytes.now c.loop-n.n 0 c.loop-n-test.true) (AllDigits-push _ _ c.loop-n.invariant.1 digit))

use Rattle.std.proofs.Common.{sym, ◌∙◌, arith}
use Rattle.vcm_num.proofs.Reading.{AllDigits-from_test}
use Rattle.vcm_words.proofs.NumberLaws.{no_digits, too_large}
use Rattle.vcm_words.proofs.numbers.natural.Goals as goal

pub returns-then-not-all_digits-clause-value : goal.returns-then-not-all_digits-clause-value
returns-then-not-all_digits-clause-value c = sym (no_digits c.args.limit c.args.bytes.now (omega (arith, c.ranges.limit.fits)) (sym c.all_digits.ensures ∙ c.if-not-all_digits.true))

pub value-requires : goal.value-requires
value-requires c = AllDigits-from_test c.args.bytes.now (sym c.all_digits.ensures ∙ c.if-not-all_digits.false)

pub returns-in_err-number-clause-value : goal.returns-in_err-number-clause-value
returns-in_err-number-clause-value c = c.from_residual.ensures ∙ sym (too_large c.args.limit c.args.bytes.now (omega (arith, c.ranges.limit.fits)) c.in_err-number.ensures)

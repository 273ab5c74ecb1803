use Rattle.std.proofs.Common.{sym, ◌∙◌}
use Rattle.vcm_num.proofs.Reading.{AllDigits-from_test}
use Rattle.vcm_console.proofs.parsing.number.Goals as goal

pub value_of-requires-clause-digits : goal.value_of-requires-clause-digits
value_of-requires-clause-digits c = AllDigits-from_test c.args.word.now (sym c.all_digits.ensures ∙ c.if-not-all_digits.false)

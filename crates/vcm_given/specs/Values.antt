-- Values that are given, as expressions.
use Rattle.std.specs.Prelude.{Bool}
use Rattle.vcm_num.specs.declared.number.Literal.TheVariants.{Int, Thousandths}
use Rattle.vcm_expr.specs.declared.expression.Term.TheVariants.{Truth}
use Rattle.vcm_expr.specs.Source.{Source, Plain}
use Rattle.vcm_events.specs.Joined.{whole_of, length_of}
use Rattle.vcm_events.specs.Unknown.{unknown}
use Rattle.vcm_given.specs.declared.choices.Value.{Value}
use Rattle.vcm_given.specs.declared.choices.Value.TheVariants as value

-- a value that is given; a text has its number in its place before
abbrev pub given_value : Value → Source
given_value (value.Int n) = whole_of n
given_value (value.Real n) = length_of n
given_value (value.Truth b) = Plain (Truth b)
given_value (value.Text x) = unknown

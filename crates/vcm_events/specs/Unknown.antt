-- What isn't known.
use Rattle.std.specs.Prelude.{codes, None}
use Rattle.vcm_expr.specs.declared.expression.Term.TheVariants.{Variable as Named}
use Rattle.vcm_expr.specs.Source.{Source, Plain}
use Rattle.vcm_forms.specs.Statements.{as_read}
use Rattle.vcm_forms.specs.declared.statement.Coordinates.{Coordinates}
use Rattle.vcm_forms.specs.declared.statement.Rounds.{Rounds}

-- an expression whose value isn't known: a variable whose name no text can write
abbrev pub unknown : Source
unknown = Plain (Named (codes "0") 0)

-- a place that isn't known
abbrev pub unknown_place : Coordinates
unknown_place = record { x = unknown; y = unknown; z = unknown }

-- rounds that aren't known
abbrev pub unknown_rounds : Rounds
unknown_rounds = record { variable = as_read (codes "0"); initial = unknown; limit = unknown; increment = None }

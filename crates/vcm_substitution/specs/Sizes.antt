-- Statements whose expressions are all small enough, and the refusal of one that isn't.
use Rattle.std.specs.Prelude.{◌≡◌, ℕ, Bool, true, false, ◌&&◌, List, Option, Some, None}
use Rattle.std.specs.List.{list_all}
use Rattle.vcm_lines.specs.declared.fault.FaultCode.TheVariants.{TooDeep}
use Rattle.vcm_lines.specs.declared.fault.SourceFault.{SourceFault}
use Rattle.vcm_expr.specs.Source.{Source, is_small}
use Rattle.vcm_forms.specs.declared.statement.Argument.{Argument}
use Rattle.vcm_forms.specs.declared.statement.Form.{Form}
use Rattle.vcm_forms.specs.declared.statement.Form.TheVariants.{Assignment, Move, Test, Repeat, Feature, Touch, Configure, Shift, Choose}
use Rattle.vcm_forms.specs.declared.statement.Coordinates.{Coordinates}
use Rattle.vcm_forms.specs.declared.statement.Rounds.{Rounds}
use Rattle.vcm_forms.specs.declared.statement.Offset.{Offset}

-- whether an expression is small enough, where there is one
abbrev pub is_small_option : Option Source → Bool
is_small_option None = true
is_small_option (Some s) = is_small s

-- whether what each argument is as an expression is small enough
abbrev pub are_small_arguments : List Argument → Bool
are_small_arguments bs = list_all (λ b. is_small_option b.value) bs

-- whether all coordinates of a place are small enough
abbrev pub is_small_spot : Coordinates → Bool
is_small_spot p = is_small p.x && (is_small p.y && is_small p.z)

-- whether all expressions of DO are small enough
abbrev pub are_small_rounds : Rounds → Bool
are_small_rounds r = is_small r.initial && (is_small r.limit && is_small_option r.increment)

-- whether all lengths of shifts are small enough
abbrev pub are_small_offsets : List Offset → Bool
are_small_offsets os = list_all (λ o. is_small o.length) os

-- whether all expressions of a statement are small enough
abbrev pub are_small : Form → Bool
are_small (Assignment t s) = is_small s
are_small (Move p) = is_small_spot p
are_small (Test s) = is_small s
are_small (Choose s) = is_small s
are_small (Repeat r) = are_small_rounds r
are_small (Feature n p d) = is_small_spot p
are_small (Touch p d) = is_small_spot p
are_small (Configure which s) = is_small s
are_small (Shift n os) = are_small_offsets os
are_small form = true

-- the refusal tells at this line that something is too deep or too large, and it isn't small
abbrev pub IsTooDeep : ℕ → Bool → SourceFault → Type 0
IsTooDeep line small f = (f ≡ record { code = TooDeep; line = line }) × (small ≡ false)

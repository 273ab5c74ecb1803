-- Statements without expressions.
use Rattle.std.specs.Prelude.{Bool, false}
use Rattle.vcm_forms.specs.declared.statement.Form.{Form}
use Rattle.vcm_forms.specs.declared.statement.Form.TheVariants.{Assignment, Move, Test, Choose, Repeat, Feature, Touch, Configure, Shift}
use Rattle.vcm_substitution.specs.Kept.{is_kept}

-- whether a statement of the expanded program has no expressions
abbrev pub is_plain : Form → Bool
is_plain (Assignment t s) = false
is_plain (Move p) = false
is_plain (Test s) = false
is_plain (Choose s) = false
is_plain (Repeat r) = false
is_plain (Feature n p d) = false
is_plain (Touch p d) = false
is_plain (Configure which s) = false
is_plain (Shift n os) = false
is_plain form = is_kept form

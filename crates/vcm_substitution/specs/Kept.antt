-- Which statements the expanded program has.
use Rattle.std.specs.Prelude.{Bool, true}
use Rattle.vcm_forms.specs.declared.statement.Form.{Form}
use Rattle.vcm_forms.specs.declared.statement.Form.TheVariants.{Declaration}
use Rattle.vcm_forms.specs.Statements.{is_counted}

-- whether a statement is one of the expanded program, and counts there: a step of the machine, or DECL
abbrev pub is_kept : Form → Bool
is_kept (Declaration kind names) = true
is_kept form = is_counted form

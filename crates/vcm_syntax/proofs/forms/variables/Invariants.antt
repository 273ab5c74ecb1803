use Rattle.vcm_syntax.specs.Places.{variable_of}
use Rattle.vcm_syntax.proofs.EachField.{AreRead}
use Rattle.vcm_syntax.proofs.forms.variables.Given as goal

abbrev pub invariant-loop-field : goal.invariant-loop-field
invariant-loop-field l = AreRead variable_of l.fields l.field-index l.names

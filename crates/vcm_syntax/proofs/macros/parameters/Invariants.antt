use Rattle.vcm_syntax.specs.Macros.{parameter_of}
use Rattle.vcm_syntax.proofs.EachField.{AreRead}
use Rattle.vcm_syntax.proofs.macros.parameters.Given as goal

abbrev pub invariant-loop-field : goal.invariant-loop-field
invariant-loop-field l = AreRead parameter_of l.fields l.field-index l.parameters

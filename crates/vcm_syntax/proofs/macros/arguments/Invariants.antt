use Rattle.vcm_syntax.specs.Macros.{argument_of}
use Rattle.vcm_syntax.proofs.EachField.{AreRead}
use Rattle.vcm_syntax.proofs.macros.arguments.Given as goal

abbrev pub invariant-loop-field : goal.invariant-loop-field
invariant-loop-field l = AreRead argument_of l.fields l.field-index l.arguments

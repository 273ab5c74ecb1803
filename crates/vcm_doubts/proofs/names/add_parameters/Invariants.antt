use Rattle.std.proofs.Common.{◌≡◌, ◌++◌, drop}
use Rattle.vcm_doubts.specs.Doubts.{parameter_names}
use Rattle.vcm_doubts.proofs.names.add_parameters.Given as goal

abbrev pub invariant-loop-parameter : goal.invariant-loop-parameter
invariant-loop-parameter l = record {
  left : l.initial.names ++ parameter_names l.parameters ≡ l.names ++ parameter_names (drop l.parameter-index l.parameters);
}

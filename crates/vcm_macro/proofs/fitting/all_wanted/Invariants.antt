use Rattle.std.proofs.Common.{◌≡◌, ◌++◌, drop}
use Rattle.std.specs.Prelude.{map}
use Rattle.vcm_macro.specs.Rules.{wanted_by}
use Rattle.vcm_macro.proofs.fitting.all_wanted.Given as goal

abbrev pub invariant-loop-parameter : goal.invariant-loop-parameter
invariant-loop-parameter l = l.all.items ++ map (wanted_by l.body) (drop l.parameter-index l.parameters) ≡ map (wanted_by l.body) l.parameters

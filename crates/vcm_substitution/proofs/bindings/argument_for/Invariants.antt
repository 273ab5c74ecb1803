use Rattle.std.proofs.Common.{◌≡◌, length}
use Rattle.vcm_substitution.specs.Substitution.{argument_for}
use Rattle.vcm_substitution.proofs.bindings.argument_for.Given as goal

abbrev pub invariant-found : goal.invariant-found
invariant-found l = argument_for l.quoted l.name l.fn.parameters l.fn.arguments ≡ argument_for l.quoted l.name l.parameters l.arguments

abbrev pub decreases-found : goal.decreases-found
decreases-found l = length l.parameters

use Rattle.std.proofs.Common.{length, refl}
use Rattle.vcm_state.proofs.Values.{zeros_fit, nones_long}
use Rattle.vcm_state.proofs.world.World.opening.Goals as goal

pub invariant_of-result : goal.invariant_of-result
invariant_of-result c =
    rw (
      c.in_ok-variables.ensures,
      c.variables.ensures,
      c.in_ok-saved.ensures,
      c.in_ok-nominal.ensures,
      c.in_ok-actual.ensures,
      c.frames.ensures,
      c.features.ensures,
      c.features-2.ensures,
      c.in_ok-tables.ensures.ok,
    )
    (c.requires, zeros_fit c.args.tables.variables, nones_long _ (length c.args.tables.frames), nones_long _ (length c.args.tables.features), nones_long _ (length c.args.tables.features))

pub returns-clause-state : goal.returns-clause-state
returns-clause-state c part home =
    rw (
      c.opening.ensures,
      c.opening-2.ensures,
      c.in_ok-variables.ensures,
      c.variables.ensures,
      c.in_ok-saved.ensures,
      c.frames.ensures,
      c.in_ok-nominal.ensures,
      c.features.ensures,
      c.in_ok-actual.ensures,
      c.features-2.ensures,
      c.new-2.ensures,
      home,
    ) refl

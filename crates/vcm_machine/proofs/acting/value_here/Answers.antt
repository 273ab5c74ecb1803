use Rattle.std.proofs.Common.{sym, ap}
use Rattle.vcm_spec.specs.Fitting.{kinds}
use Rattle.vcm_spec.specs.Outcome.{calculated}
use Rattle.vcm_machine.proofs.Evaluating.{slots_long}
use Rattle.vcm_machine.proofs.acting.value_here.Goals as goal

pub value_at-requires : goal.value_at-requires
value_at-requires c =
    rw c.variables.ensures.values (kinds c.args.world.now.tables, c.requires.0, c.requires.1, sym (slots_long _ _ c.variables.ensures.fit))

pub returns-in-Ok-clause-value : goal.returns-in-Ok-clause-value
returns-in-Ok-clause-value c e rest h =
    let v = rw c.variables.ensures.values at (c.in-Ok.ensures.value e rest h) in
    (ap calculated (sym v.0), v.1)

use Rattle.std.proofs.Common.{sym}
use Rattle.vcm_spec.specs.Fitting.{kinds}
use Rattle.vcm_machine.proofs.Evaluating.{slots_long}
use Rattle.vcm_way.proofs.task.value.Goals as goal

pub items_value-requires : goal.items_value-requires
items_value-requires c =
    rw c.variables.ensures.values (kinds c.args.world.now.tables, c.requires.0, c.requires.1, sym (slots_long _ _ c.variables.ensures.fit))

use Rattle.std.proofs.Common.{◌∙◌}
use Rattle.vcm_items.proofs.NameLemmas.{position_named}
use Rattle.vcm_expr.proofs.names.Names.index_in.Goals as goal

pub returns : goal.returns
returns c = rw (← c.self.view_is, ← c.copy.ensures) (c.get_index_of.ensures.index ∙ position_named _ _ c.self.inside.variables.entries)

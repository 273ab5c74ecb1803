use Rattle.std.proofs.Common.{sym, ◌∙◌}
use Rattle.vcm_nodes.specs.inner.Falls.{other_is}
use Rattle.vcm_nodes.proofs.node.Cases.default.Goals as goal

pub returns : goal.returns
returns c = rw (← c.self.view_is) (c.as_ref.ensures.value ∙ sym (other_is c.self.inside.cases.items c.self.inside.other))

use Rattle.vcm_nodes.proofs.SameNames.{name_alone}
use Rattle.vcm_nodes.proofs.node.LabelPartialEq.eq.Goals as goal

pub returns-then-self-other : goal.returns-then-self-other
returns-then-self-other c =
    rw (c.eq.ensures, ← c.self.view_is, ← c.other.view_is) (name_alone c.self.inside.expansion c.other.inside.expansion c.self.inside.name c.other.inside.name c.if-self-other.true)

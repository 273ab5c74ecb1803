use Rattle.std.proofs.Common.{ap, ◌∙◌}
use Rattle.vcm_nodes.specs.Nodes.{cases_of, other_of}
use Rattle.vcm_nodes.specs.inner.Falls.{other_is}
use Rattle.vcm_nodes.proofs.node.Cases.cases.Goals as goal

pub returns : goal.returns
returns c =
    ap (λ xs. cases_of xs (other_of c.args.self.now)) c.deref.ensures.value
    ∙ rw (← c.self.view_is) (ap (cases_of c.self.inside.cases.items) (other_is c.self.inside.cases.items c.self.inside.other))

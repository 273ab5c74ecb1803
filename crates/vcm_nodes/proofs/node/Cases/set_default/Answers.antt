use Rattle.std.proofs.Common.{ap, ◌∙◌}
use Rattle.vcm_nodes.specs.Nodes.{with_default}
use Rattle.vcm_nodes.specs.inner.Falls.{cases_default}
use Rattle.vcm_nodes.proofs.node.Cases.set_default.Goals as goal

pub returns : goal.returns
returns c =
    cases_default c.self.inside.cases.items c.self.inside.other c.args.line c.args.block c.args.close
    ∙ ap (λ t. with_default t c.args.line c.args.block c.args.close) c.self.view_is

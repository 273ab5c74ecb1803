use Rattle.std.proofs.Common.{ap, ◌∙◌}
use Rattle.vcm_nodes.specs.Nodes.{block_of, node_of, with_last}
use Rattle.vcm_nodes.specs.inner.Falls.{block_push}
use Rattle.vcm_nodes.proofs.node.Block.push.Goals as goal

pub returns-clause-ok : goal.returns-clause-ok
returns-clause-ok c =
    ap block_of c.in_ok-push.ensures.items ∙ block_push c.self.inside.nodes.items c.args.node ∙ ap (λ t. with_last t (node_of c.args.node)) c.self.view_is

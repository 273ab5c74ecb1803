use Rattle.std.proofs.Common.{ap, ◌∙◌, FitsSigned, w64, to_z-of_z, rules}
use Rattle.vcm_nodes.specs.Nodes.{cases_of, with_case}
use Rattle.vcm_nodes.specs.inner.Falls.{cases_push}
use Rattle.vcm_nodes.proofs.node.Cases.push.Goals as goal

pub returns-clause-ok : goal.returns-clause-ok
returns-clause-ok c =
    let fits : FitsSigned w64 c.args.value = search rules in
    ap (λ xs. cases_of xs c.self.inside.other) (rw (to_z-of_z fits) at c.in_ok-push.ensures.items)
    ∙ cases_push c.self.inside.cases.items c.self.inside.other c.args.line c.args.value c.args.block c.args.close
    ∙ ap (λ t. with_case t c.args.line c.args.value c.args.block c.args.close) c.self.view_is

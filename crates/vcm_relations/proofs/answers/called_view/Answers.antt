use Rattle.vcm_job.specs.Views.{IsShown, IsNoView}
use Rattle.vcm_relations.proofs.Tied.{answer}
use Rattle.vcm_relations.proofs.answers.called_view.Goals as goal

pub returns : goal.returns
returns g c = answer (λ input d. IsShown (g.S.Shows.RunView c.args.view.now) c.args.part.now input c.args.steps d.status d.notices.items) (IsNoView (g.S.Shows.RunView c.args.view.now) c.args.part.now c.args.steps) _ _ _ _ _
    c.view_of.ensures.done c.view_of.ensures.fault c.view_of.ensures.long

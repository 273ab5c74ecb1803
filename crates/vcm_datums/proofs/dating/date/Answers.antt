use Rattle.std.proofs.Common.{ap, ◌∙◌}
use Rattle.std.proofs.lemmas.Result.{IfOk-weaker}
use Rattle.vcm_datums.specs.Datums.{datums_of}
use Rattle.vcm_datums.specs.Dated.{dated_with}
use Rattle.vcm_datums.proofs.dating.date.Goals as goal

pub returns : goal.returns
returns c =
    IfOk-weaker c.date_with.result _ _
    (λ ss e. e ∙ ap (λ ds. dated_with ds c.args.lines.now c.args.said.items)
    (c.deref-2.ensures.value ∙ (c.in_ok-datums.ensures ∙ ap (λ ss. datums_of c.args.lines.now ss) c.deref.ensures.value)))
    c.date_with.ensures

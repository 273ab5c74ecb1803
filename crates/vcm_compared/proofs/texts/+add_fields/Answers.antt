use Rattle.vcm_compared.proofs.Fields.{held_put}
use Rattle.vcm_compared.proofs.texts.+add_fields.Goals as goal

pub returns : goal.returns
returns t c =
    held_put _ _ c.args.left c.args.most c.add_fields.result c.in-Some.is c.if-left-eq0.false c.in_ok-add_held.ensures c.cut_at-field.ensures.front c.cut_at-field.ensures.rest
    c.add_fields.ensures

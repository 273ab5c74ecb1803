use Rattle.std.proofs.Common.{refl, arith}
use Rattle.vcm_sentences.proofs.Fielding.{field_more, fields_done, pushed}
use Rattle.vcm_sentences.proofs.parts.fields_of.Goals as goal

pub fields-preserved : goal.fields-preserved
fields-preserved c = field_more c.args.rest.now _ _ c.fields.left.now c.behind-left.result.now c.fields.end c.field_len-end-in-fields.result c.fields-test.true
    c.behind-left.ensures (pushed _ _ c.front.result _ c.in_ok-push.ensures.items c.front.ensures) c.field_len-end-in-fields.ensures.value c.fields.invariant

pub returns : goal.returns
returns c = fields_done c.args.rest.now _ _ c.fields.left.now c.fields.end (omega (arith, c.fields-test.false)) (pushed _ _ _ _ c.in_ok-push-2.ensures.items refl) c.fields.invariant

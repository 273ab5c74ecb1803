use Rattle.std.proofs.lemmas.Result.{on_ok_weaker}
use Rattle.vcm_code.specs.Ranges.{IsRanged}
use Rattle.vcm_fields.specs.Spelling.{place}
use Rattle.vcm_fields.specs.Widths.{HasWidth}
use Rattle.vcm_fields.proofs.FieldPlaces.{over_fields}
use Rattle.vcm_image.proofs.Ranges.{operands_meet, each_meets}
use Rattle.vcm_image.proofs.operands.operands.Goals as goal

pub fields-requires : goal.fields-requires
fields-requires c = each_meets IsRanged _ _ c.fields_of.ensures c.requires

pub returns-clause-bytes : goal.returns-clause-bytes
returns-clause-bytes c = rw (over_fields place _ _ c.fields_of.ensures) at c.fields.ensures.bytes

pub returns-clause-widths : goal.returns-clause-widths
returns-clause-widths c = on_ok_weaker c.fields.result (operands_meet HasWidth _ _ c.fields_of.ensures) c.fields.ensures.widths

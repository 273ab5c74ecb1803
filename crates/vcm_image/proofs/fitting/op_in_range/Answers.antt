use Rattle.vcm_code.specs.Ranges.{IsRanged}
use Rattle.vcm_fields.specs.Widths.{HasWidth}
use Rattle.vcm_image.proofs.Ranges.{operands_meet, each_meets}
use Rattle.vcm_image.proofs.fitting.op_in_range.Goals as goal

pub returns-clause-range : goal.returns-clause-range
returns-clause-range c = record {
  so = λ e. operands_meet IsRanged _ _ c.fields_of.ensures (c.are_ranged.ensures.range.so e);
  only = λ h. c.are_ranged.ensures.range.only (each_meets IsRanged _ _ c.fields_of.ensures h);
}

pub returns-clause-widths : goal.returns-clause-widths
returns-clause-widths c e = operands_meet HasWidth _ _ c.fields_of.ensures (c.are_ranged.ensures.widths e)

use Rattle.vcm_spec.proofs.Tips.{tips_meet, tips_touch}
use Rattle.vcm_spec.proofs.Resting.{clear_of_blocks}
use Rattle.vcm_spec.proofs.laws.tips_meet_grown_blocks.Goals as goal

pub returns-clause-moving : goal.returns-clause-moving
returns-clause-moving c = tips_meet

pub returns-clause-resting : goal.returns-clause-resting
returns-clause-resting c = tips_touch

pub returns-clause-clear : goal.returns-clause-clear
returns-clause-clear c = clear_of_blocks

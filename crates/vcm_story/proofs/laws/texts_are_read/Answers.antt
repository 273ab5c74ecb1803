use Rattle.vcm_story.proofs.ReadTexts.{texts_read}
use Rattle.vcm_story.proofs.laws.texts_are_read.Goals as goal

pub returns : goal.returns
returns c = texts_read

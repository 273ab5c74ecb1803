use Rattle.vcm_story.proofs.StoryLines.{stories_clear}
use Rattle.vcm_story.proofs.laws.stories_are_clear.Goals as goal

pub returns : goal.returns
returns c = stories_clear

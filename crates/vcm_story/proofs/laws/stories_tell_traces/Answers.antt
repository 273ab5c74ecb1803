use Rattle.vcm_story.proofs.StoryLines.{stories_tell_steps, stories_tell_all}
use Rattle.vcm_story.proofs.laws.stories_tell_traces.Goals as goal

pub returns-clause-steps : goal.returns-clause-steps
returns-clause-steps c = stories_tell_steps

pub returns-clause-traces : goal.returns-clause-traces
returns-clause-traces c = stories_tell_all

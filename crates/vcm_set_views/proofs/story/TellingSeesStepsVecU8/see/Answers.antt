use Rattle.vcm_set_views.proofs.story.TellingSeesStepsVecU8.see.Goals as goal

pub returns-in-Ok : goal.returns-in-Ok
returns-in-Ok c = λ w. rw c.as_slice.ensures at c.in-Ok.ensures w

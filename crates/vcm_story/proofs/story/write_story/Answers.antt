use Rattle.std.proofs.Common.{ap, ◌∙◌, ◌++◌, sym}
use Rattle.vcm_rows.specs.Opening.{opening_rows}
use Rattle.vcm_story.specs.Stories.{start_rows, passage_rows}
use Rattle.vcm_story.proofs.StoryLemmas.{not_begun, broken_off, halted, has_stopped, is_open, cut_last}
use Rattle.vcm_story.proofs.story.write_story.Goals as goal

pub returns-in_default-clause-fault : goal.returns-in_default-clause-fault
returns-in_default-clause-fault g c =
    let part = c.args.blocks.now in
    let code = c.args.loaded.now in
    not_begun part code (passage_rows part code.tables c.args.from)
    (opening_rows part code c.args.shown.text.now c.args.shown.is_listing c.args.shown.notices.now ++ start_rows part code c.args.from) c.args.steps _ _
    (rw c.requires.start at c.in_default.ensures)

pub returns-in-Ok-write_rest-clause-told : goal.returns-in-Ok-write_rest-clause-told
returns-in-Ok-write_rest-clause-told g c =
    let part = c.args.blocks.now in
    let code = c.args.loaded.now in
    let part_is = ap (λ m. m.part) c.requires.start in
    is_open part code (passage_rows part code.tables c.args.from)
    (opening_rows part code c.args.shown.text.now c.args.shown.is_listing c.args.shown.notices.now ++ start_rows part code c.args.from) c.args.steps
    c.args.machine.now c.follow_run.new.machine c.in-Ok-follow_run.ran c.requires.start c.in-Ok-follow_run.ensures.run _ _ _
    (rw c.requires.start at c.in-Ok.ensures) (rw part_is at c.in-Ok-follow_run.ensures.has) c.in-Count.is _ c.in-Ok-write_rest.ensures

pub returns-in-Err-write_rest-clause-fault : goal.returns-in-Err-write_rest-clause-fault
returns-in-Err-write_rest-clause-fault g c =
    let part = c.args.blocks.now in
    let code = c.args.loaded.now in
    let part_is = ap (λ m. m.part) c.requires.start in
    cut_last part code (passage_rows part code.tables c.args.from)
    (opening_rows part code c.args.shown.text.now c.args.shown.is_listing c.args.shown.notices.now ++ start_rows part code c.args.from) c.args.steps
    c.args.machine.now c.follow_run.new.machine c.in-Ok-follow_run.ran c.requires.start c.in-Ok-follow_run.ensures.run _ _ _
    (rw c.requires.start at c.in-Ok.ensures) (rw part_is at c.in-Ok-follow_run.ensures.has) c.in-Count.is _ c.in-Err-write_rest.ensures

pub returns-in-Stopped-clause-told : goal.returns-in-Stopped-clause-told
returns-in-Stopped-clause-told g c =
    let part = c.args.blocks.now in
    let code = c.args.loaded.now in
    let part_is = ap (λ m. m.part) c.requires.start in
    has_stopped part code (passage_rows part code.tables c.args.from)
    (opening_rows part code c.args.shown.text.now c.args.shown.is_listing c.args.shown.notices.now ++ start_rows part code c.args.from) c.args.steps
    c.args.machine.now c.follow_run.new.machine c.in-Ok-follow_run.ran c.requires.start c.in-Ok-follow_run.ensures.run _ _ _
    (rw c.requires.start at c.in-Ok.ensures) (rw part_is at c.in-Ok-follow_run.ensures.has) c.stop.result c.in-Stopped.is (c.stop.ensures ∙ ap (λ s. s.stop) c.world.ensures.state)

pub returns-in-NoMemory-clause-fault : goal.returns-in-NoMemory-clause-fault
returns-in-NoMemory-clause-fault g c =
    let part = c.args.blocks.now in
    let code = c.args.loaded.now in
    let part_is = ap (λ m. m.part) c.requires.start in
    halted part code (passage_rows part code.tables c.args.from)
    (opening_rows part code c.args.shown.text.now c.args.shown.is_listing c.args.shown.notices.now ++ start_rows part code c.args.from) c.args.steps
    c.args.machine.now c.follow_run.new.machine c.in-Ok-follow_run.ran c.requires.start c.in-Ok-follow_run.ensures.run _ _ _
    (rw c.requires.start at c.in-Ok.ensures) (rw part_is at c.in-Ok-follow_run.ensures.has) c.in-NoMemory.is

pub returns-in-Err-clause-fault : goal.returns-in-Err-clause-fault
returns-in-Err-clause-fault g c =
    let part = c.args.blocks.now in
    let code = c.args.loaded.now in
    let part_is = ap (λ m. m.part) c.requires.start in
    broken_off part code (passage_rows part code.tables c.args.from)
    (opening_rows part code c.args.shown.text.now c.args.shown.is_listing c.args.shown.notices.now ++ start_rows part code c.args.from) c.args.steps _ _ _
    (rw c.requires.start at c.in-Ok.ensures) (rw part_is at c.in-Err.ensures.err)

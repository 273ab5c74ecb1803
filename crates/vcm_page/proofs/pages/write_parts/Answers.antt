use Rattle.vcm_story.specs.Stories.{story_text}
use Rattle.vcm_page.specs.Views.{texts_of}
use Rattle.vcm_page.proofs.PageLemmas.{front_cut, story_cut, back_cut, all_written}
use Rattle.vcm_page.proofs.pages.write_parts.Goals as goal

pub returns-in_default-clause-fault : goal.returns-in_default-clause-fault
returns-in_default-clause-fault g c =
    let t = texts_of c.args.texts.front.now c.args.texts.back.now in
    front_cut t.front (story_text c.args.part.now c.args.loaded.now c.args.shown.text.now c.args.shown.is_listing c.args.shown.notices.now c.args.from c.args.steps) t.back _ _ c.in_default.ensures

pub returns-in-Ok-write_behind-clause-told : goal.returns-in-Ok-write_behind-clause-told
returns-in-Ok-write_behind-clause-told g c =
    let t = texts_of c.args.texts.front.now c.args.texts.back.now in
    all_written t.front (story_text c.args.part.now c.args.loaded.now c.args.shown.text.now c.args.shown.is_listing c.args.shown.notices.now c.args.from c.args.steps) t.back _ _ c.in-Ok.ensures _
    c.args.part.now c.args.loaded.now c.args.steps c.in-Ok-write_story.stop c.in-Ok-write_story.ensures.told _ c.in-Ok-write_behind.ensures

pub returns-in-Err-write_behind-clause-fault : goal.returns-in-Err-write_behind-clause-fault
returns-in-Err-write_behind-clause-fault g c =
    let t = texts_of c.args.texts.front.now c.args.texts.back.now in
    back_cut t.front (story_text c.args.part.now c.args.loaded.now c.args.shown.text.now c.args.shown.is_listing c.args.shown.notices.now c.args.from c.args.steps) t.back _ _ c.in-Ok.ensures _
    c.args.part.now c.args.loaded.now c.args.steps c.in-Ok-write_story.stop c.in-Ok-write_story.ensures.told _ c.in-Err-write_behind.ensures

pub returns-in-Err-clause-fault : goal.returns-in-Err-clause-fault
returns-in-Err-clause-fault g c =
    let t = texts_of c.args.texts.front.now c.args.texts.back.now in
    story_cut t.front (story_text c.args.part.now c.args.loaded.now c.args.shown.text.now c.args.shown.is_listing c.args.shown.notices.now c.args.from
    c.args.steps) t.back _ _ c.in-Ok.ensures _ c.in-Err.ensures.fault

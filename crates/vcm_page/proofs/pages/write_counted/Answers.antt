use Rattle.std.proofs.Common.{ap, ◌∙◌}
use Rattle.vcm_machine.specs.Running.{started}
use Rattle.vcm_page.specs.Views.{texts_of}
use Rattle.vcm_page.proofs.PageLemmas.{page_written, page_cut}
use Rattle.vcm_page.proofs.pages.write_counted.Goals as goal

pub write_parts-requires-clause-start : goal.write_parts-requires-clause-start
write_parts-requires-clause-start g c = c.in-Ok.ensures ∙ ap (λ p. started p c.args.loaded.now) c.requires.tie

pub returns-in-Ok-write_parts-clause-written : goal.returns-in-Ok-write_parts-clause-written
returns-in-Ok-write_parts-clause-written g c =
    let t = texts_of c.args.texts.front.now c.args.texts.back.now in
    page_written t.front t.back c.args.part.now c.args.loaded.now c.args.shown.text.now c.args.shown.is_listing c.args.shown.notices.now c.args.steps
    c.args.done c.not_shown-from.result c.requires.counted
    c.not_shown-from.ensures _ _ c.in-Ok-write_parts.stop c.status_of.result c.status_of.ensures c.in-Ok-write_parts.ensures.told

pub returns-clause-fault : goal.returns-clause-fault
returns-clause-fault g c =
    let t = texts_of c.args.texts.front.now c.args.texts.back.now in
    page_cut t.front t.back c.args.part.now c.args.loaded.now c.args.shown.text.now c.args.shown.is_listing c.args.shown.notices.now c.args.steps c.args.done c.not_shown-from.result c.requires.counted
    c.not_shown-from.ensures _ _ c.in-Err.ensures.fault

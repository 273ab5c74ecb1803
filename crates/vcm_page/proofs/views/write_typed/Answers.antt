use Rattle.std.proofs.Common.{Some, refl}
use Rattle.vcm_page.specs.Views.{texts_of}
use Rattle.vcm_page.proofs.PageViews.{viewed_of, cut_short_of}
use Rattle.vcm_page.proofs.views.write_typed.Goals as goal

pub returns-clause-shown : goal.returns-clause-shown
returns-clause-shown g c =
    viewed_of (texts_of c.args.texts.front.now c.args.texts.back.now) (Some c.args.text.now) c.args.notices.now c.args.part.now c.args.loaded.now c.args.steps _ refl _ _ c.write_page.result
    c.write_page.ensures.written

pub returns-clause-fault : goal.returns-clause-fault
returns-clause-fault g c =
    cut_short_of (texts_of c.args.texts.front.now c.args.texts.back.now) (Some c.args.text.now) c.args.notices.now c.args.part.now c.args.loaded.now c.args.steps _ refl _ _ c.write_page.result
    c.write_page.ensures.fault

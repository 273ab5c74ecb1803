use Rattle.std.specs.Prelude.{None, []}
use Rattle.std.proofs.KnownBytes.{Keeps-refl}
use Rattle.vcm_views.proofs.PictureViews.{sheet_viewed, sheet_cut_short, sheet_halted}
use Rattle.vcm_views.proofs.sheets.SheetViewShows.show.Goals as goal

pub returns-then-is_halted-clause-fault : goal.returns-then-is_halted-clause-fault
returns-then-is_halted-clause-fault g c =
    sheet_halted None [] _ _ c.in-Ok.ensures.meaning c.args.loaded.now c.args.steps _ _ _ c.in-Ok-follow.ensures c.args.self.now.titles
    (c.is_halted.ensures.halted c.if-is_halted.true) _

pub returns-in_default-readings_of-clause-fault : goal.returns-in_default-readings_of-clause-fault
returns-in_default-readings_of-clause-fault g c = Keeps-refl _

pub returns-clause-shown : goal.returns-clause-shown
returns-clause-shown g c =
    sheet_viewed _ _ _ _ c.in-Ok.ensures.meaning c.args.loaded.now c.args.steps _ _ _ c.in-Ok-follow.ensures c.args.self.now.titles
    (c.is_halted.ensures.ample c.if-is_halted.false) _ _ (rw c.marks.ensures at c.first_step-from.ensures) (rw c.in-Ok-readings_of.ensures at c.as_slice.ensures.value) c.file.result _ _ c.file.ensures.filed

pub returns-clause-fault : goal.returns-clause-fault
returns-clause-fault g c =
    sheet_cut_short _ _ _ _ c.in-Ok.ensures.meaning c.args.loaded.now c.args.steps _ _ _ c.in-Ok-follow.ensures c.args.self.now.titles
    (c.is_halted.ensures.ample c.if-is_halted.false) _ _ (rw c.marks.ensures at c.first_step-from.ensures) (rw c.in-Ok-readings_of.ensures at c.as_slice.ensures.value) c.file.result _ _ c.file.ensures.fault

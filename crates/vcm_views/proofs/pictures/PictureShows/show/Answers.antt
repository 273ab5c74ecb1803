use Rattle.std.specs.Prelude.{None, []}
use Rattle.vcm_views.proofs.PictureViews.{picture_viewed, picture_cut_short, picture_halted}
use Rattle.vcm_views.proofs.pictures.PictureShows.show.Goals as goal

pub returns-then-is_halted-clause-fault : goal.returns-then-is_halted-clause-fault
returns-then-is_halted-clause-fault g c =
    picture_halted None [] _ _ c.in-Ok.ensures.meaning c.args.loaded.now c.args.steps _ _ _ c.in-Ok-follow.ensures c.args.self.now.is_close c.args.self.now.untried
    (c.is_halted.ensures.halted c.if-is_halted.true) _

pub returns-clause-shown : goal.returns-clause-shown
returns-clause-shown g c =
    picture_viewed _ _ _ _ c.in-Ok.ensures.meaning c.args.loaded.now c.args.steps _ _ _ c.in-Ok-follow.ensures c.args.self.now.is_close c.args.self.now.untried
    (c.is_halted.ensures.ample c.if-is_halted.false) c.draw.result _ _ c.draw.ensures.drawn

pub returns-clause-fault : goal.returns-clause-fault
returns-clause-fault g c =
    picture_cut_short _ _ _ _ c.in-Ok.ensures.meaning c.args.loaded.now c.args.steps _ _ _ c.in-Ok-follow.ensures c.args.self.now.is_close c.args.self.now.untried
    (c.is_halted.ensures.ample c.if-is_halted.false) c.draw.result _ _ c.draw.ensures.fault

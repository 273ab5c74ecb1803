use Rattle.vcm_picture.proofs.Before.{shown_open}
use Rattle.vcm_picture.proofs.shown.shown_of.Goals as goal

pub returns-then-not-is_hidden : goal.returns-then-not-is_hidden
returns-then-not-is_hidden c =
    shown_open c.args.before.now c.args.face.now c.args.unit _ _ (rw c.rect-rect.ensures.rect at c.is_hidden.ensures) c.if-not-is_hidden.true
    c.figure_of.ensures

use Rattle.std.proofs.Common.{◌∙◌, ap}
use Rattle.vcm_picture.specs.Picture.{window_for}
use Rattle.vcm_picture.proofs.picture.window_round.Goals as goal

pub returns : goal.returns
returns c =
    let b = c.args.is_close in
    let part = c.args.part.now in
    let at = c.args.world.now.state.position in
    let marks = c.args.marks.now in
    c.window_for.ensures ∙ ap (λ l. window_for b l.home c.position.result c.blocks-2.result.now marks) c.bounds.ensures.bounds
    ∙ ap (λ p. window_for b part.bounds.home p c.blocks-2.result.now marks) c.position.ensures
    ∙ ap (λ l. window_for b part.bounds.home at l marks) c.blocks-2.ensures.blocks

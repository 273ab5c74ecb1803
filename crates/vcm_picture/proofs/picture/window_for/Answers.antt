use Rattle.std.proofs.Common.{◌∙◌, ap}
use Rattle.vcm_picture.specs.Span.{span_of}
use Rattle.vcm_picture.specs.Window.{window_of}
use Rattle.vcm_picture.proofs.picture.window_for.Goals as goal

pub returns : goal.returns
returns c =
    let x = span_of 0 c.args.is_close c.args.home c.args.position c.args.blocks.now c.args.marks.now in
    let y = span_of 1 c.args.is_close c.args.home c.args.position c.args.blocks.now c.args.marks.now in
    c.window_of.ensures ∙ ap (λ s. window_of s c.span_of-2.result c.span_of-3.result) c.span_of.ensures
    ∙ ap (λ s. window_of x s c.span_of-3.result) c.span_of-2.ensures ∙ ap (λ s. window_of x y s) c.span_of-3.ensures

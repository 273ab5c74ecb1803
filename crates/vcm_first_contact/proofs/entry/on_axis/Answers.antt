use Rattle.std.proofs.Common.{ap, ◌∙◌}
use Rattle.std.specs.Prelude.{option_map}
use Rattle.vcm_num.specs.Point.{coordinate}
use Rattle.vcm_first_contact.specs.inner.Shares.{shared, reached_on, lesser_in}
use Rattle.vcm_first_contact.proofs.entry.on_axis.Goals as goal

pub returns : goal.returns
returns c =
    let p = c.args.pass.now in
    let other = option_map shared c.args.other in
    c.lesser-2.ensures
    ∙ ap (λ f. lesser_in p f (option_map shared c.lesser.result)) c.reached-low.ensures.is
    ∙ ap (lesser_in p (reached_on p (coordinate p.block.low c.args.axis) c.args.axis)) (c.lesser.ensures ∙ ap (λ f. lesser_in p f other) c.reached-high.ensures.is)

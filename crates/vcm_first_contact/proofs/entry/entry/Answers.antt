use Rattle.std.proofs.Common.{ap, ◌∙◌}
use Rattle.vcm_spec.specs.FirstContact.{fraction}
use Rattle.vcm_first_contact.specs.inner.Shares.{lesser_in, least_on}
use Rattle.vcm_first_contact.proofs.Passes.{entry_is}
use Rattle.vcm_first_contact.proofs.entry.entry.Goals as goal

pub returns : goal.returns
returns c =
    let p = c.args.pass.now in
    c.lesser.ensures
    ∙ ap (lesser_in p (fraction 0 1)) (c.on_axis.ensures ∙ ap (least_on p 0) (c.on_axis-second.ensures ∙ ap (least_on p 1) c.on_axis-last.ensures))
    ∙ entry_is p

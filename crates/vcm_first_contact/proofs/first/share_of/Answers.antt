use Rattle.std.proofs.Common.{sym, ap, ◌∙◌}
use Rattle.std.specs.Prelude.{option_map, unwrap_or}
use Rattle.vcm_num.specs.Point.{coordinate}
use Rattle.vcm_spec.specs.FirstContact.{fraction, entry}
use Rattle.vcm_first_contact.specs.inner.Shares.{shared}
use Rattle.vcm_first_contact.proofs.Passes.{spread_near}
use Rattle.vcm_first_contact.proofs.first.share_of.Goals as goal

pub entry-requires : goal.entry-requires
entry-requires c =
    spread_near c.args.carried.now c.args.block.now c.requires.carried c.requires.block _ c.spread.ensures c.args.gone.now.way.near_from c.args.gone.now.way.near_to

pub returns-in-Some : goal.returns-in-Some
returns-in-Some c =
    let w = c.args.gone.now.way in
    ap (λ o. unwrap_or o (fraction 0 1)) (sym (ap (option_map shared) c.in-Some.is) ∙ c.entry.ensures ∙ ap (entry (coordinate w.from) (coordinate w.to)) c.spread.ensures)

pub returns-in-None : goal.returns-in-None
returns-in-None c =
    let w = c.args.gone.now.way in
    ap (λ o. unwrap_or o (fraction 0 1)) (sym (ap (option_map shared) c.in-None.is) ∙ c.entry.ensures ∙ ap (entry (coordinate w.from) (coordinate w.to)) c.spread.ensures)

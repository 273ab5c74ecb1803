use Rattle.std.proofs.Common.{◌-◌, ◌∷◌, []}
use Rattle.std.specs.Prelude.{decimal, codes}
use Rattle.vcm_svg.specs.Pieces.{joined}
use Rattle.vcm_sheet.proofs.Saying.{adds_text}
use Rattle.vcm_sheet.proofs.Tabled.{more_said}
use Rattle.vcm_sheet.proofs.rows.put_more.Goals as goal

pub returns : goal.returns
returns c =
    more_said c.args.most c.args.all c.args.words.now _ _ (rw c.saturating_sub-more.ensures at c.if-more-eq0.false)
    (adds_text c.cell.result (joined (codes "and " ∷ decimal (c.args.all - c.args.most) ∷ c.args.words.now ∷ [])) _ _
    (rw c.saturating_sub-more.ensures at c.in_ok-put_text.ensures))

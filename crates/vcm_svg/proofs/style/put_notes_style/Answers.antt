use Rattle.vcm_svg.specs.Style.{widths, notes}
use Rattle.vcm_svg.specs.declared.style.TheConstants.{END}
use Rattle.vcm_svg.proofs.Appended.{two}
use Rattle.vcm_svg.proofs.style.put_notes_style.Goals as goal

pub returns : goal.returns
returns c = two _ _ _ _ (widths c.args.unit notes) END.now c.in_ok-put_widths.ensures c.put_bytes.ensures

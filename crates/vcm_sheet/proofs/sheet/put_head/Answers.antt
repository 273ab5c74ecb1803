use Rattle.std.proofs.Common.{◌∷◌, []}
use Rattle.vcm_sheet.specs.Content.{filing, title_said}
use Rattle.vcm_sheet.proofs.Saying.{adds_then}
use Rattle.vcm_sheet.proofs.sheet.put_head.Goals as goal

pub returns : goal.returns
returns c =
    adds_then c.put_title.result [] (title_said (filing c.args.sheet.now) c.args.first.now ∷ []) _ _ _ c.in_ok-put_size.ensures c.put_title.ensures

use Rattle.vcm_sheet.specs.Written.{written}
use Rattle.vcm_sheet.proofs.Whole.{last_title}
use Rattle.vcm_sheet.proofs.sheet.put_title.Goals as goal

pub returns : goal.returns
returns c =
    last_title c.put-3.result (written c.args.sheet.now.program_name.now) c.args.first.now _ _ _ _ _ c.in_ok-put.ensures c.in_ok-put_name.ensures
    c.in_ok-put-2.ensures c.put-3.ensures

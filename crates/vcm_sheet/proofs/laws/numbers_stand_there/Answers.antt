use Rattle.vcm_sheet.proofs.Apart.{numbers_there}
use Rattle.vcm_sheet.proofs.laws.numbers_stand_there.Goals as goal

pub returns : goal.returns
returns c = numbers_there

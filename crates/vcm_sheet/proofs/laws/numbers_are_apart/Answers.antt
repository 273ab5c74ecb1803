use Rattle.vcm_sheet.proofs.Apart.{numbers_apart}
use Rattle.vcm_sheet.proofs.laws.numbers_are_apart.Goals as goal

pub returns : goal.returns
returns c = numbers_apart

use Rattle.vcm_sheet.proofs.Counted.{points_have_numbers, numbers_are_counted}
use Rattle.vcm_sheet.proofs.laws.points_are_numbered.Goals as goal

pub returns : goal.returns
returns c = record { once = points_have_numbers; counted = numbers_are_counted }

use Rattle.vcm_adapt.proofs.Endings.{lines_adapted}
use Rattle.vcm_adapt.proofs.laws.lines_without_endings_come_of_lines.Goals as goal

pub returns : goal.returns
returns c = lines_adapted

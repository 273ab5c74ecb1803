use Rattle.vcm_naming.proofs.Pages.{plain_added}
use Rattle.vcm_clearance.specs.Printed.{met_line}
use Rattle.vcm_clearance.proofs.printing.write_box.Goals as goal

pub returns-in-Met : goal.returns-in-Met
returns-in-Met g c = rw c.in-Met.is (plain_added (met_line c.args.name.now c.in-Met.count) c.args.names.now _ _ _ c.write_met_line.ensures)

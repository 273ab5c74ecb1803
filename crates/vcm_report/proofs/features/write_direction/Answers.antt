use Rattle.std.specs.Fmt.{signed_decimal}
use Rattle.vcm_num.specs.Axis.{unit}
use Rattle.vcm_report.proofs.FeatureLines.{row_is}
use Rattle.vcm_report.proofs.features.write_direction.Goals as goal

pub returns : goal.returns
returns g c =
    let e = row_is (signed_decimal (unit c.args.toward 0)) (signed_decimal (unit c.args.toward 1)) (signed_decimal (unit c.args.toward 2)) in
    rw (← e) (rw (c.component_text.ensures, c.component_text-2.ensures, c.component_text-3.ensures) at c.write_three.ensures)

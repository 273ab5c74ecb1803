use Rattle.std.proofs.Common.{rules, w64, FitsSigned, to_z-of_z}
use Rattle.vcm_picture.specs.declared.view.View.TheVariants.{Top}
use Rattle.vcm_picture.specs.View.{scope_of}
use Rattle.vcm_sheet.proofs.Whole.{last_bar}
use Rattle.vcm_sheet.proofs.sheet.put_length.Goals as goal

pub returns : goal.returns
returns c =
    let w = c.args.window in
    let f : FitsSigned w64 c.get-wide.result = search rules in
    let e = simp to_z-of_z at c.put_bar.ensures in
    last_bar c.put_bar.result c.args.places.now.bar w.unit w.grain (scope_of w Top).wide _ _
    (rw (c.get-wide.ensures.number, c.wide.ensures, c.scope_of-scope.ensures, c.unit.ensures.value, c.grain.ensures.value) at e)

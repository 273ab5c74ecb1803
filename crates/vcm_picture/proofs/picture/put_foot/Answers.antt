use Rattle.std.proofs.Common.{rules, w64, FitsSigned, to_z-of_z}
use Rattle.std.specs.Prelude.{codes}
use Rattle.vcm_svg.specs.Legend.{bar_text, legend_text}
use Rattle.vcm_picture.specs.Picture.{bar_place, legend_spot, units}
use Rattle.vcm_svg.proofs.Appended.{three}
use Rattle.vcm_picture.proofs.picture.put_foot.Goals as goal

pub returns : goal.returns
returns c =
    let fx : FitsSigned w64 c.units.result = search rules in
    let w = c.args.window in
    let l = c.args.layout in
    let e = c.unit-unit.ensures.value in
    let legend = rw (c.legend_spot.ensures, e) at c.in_ok-put_legend.ensures in
    let bar = simp to_z-of_z at c.in_ok-put_bar.ensures in
    three _ _ _ _ _ (legend_text (legend_spot l w.unit) w.unit) (bar_text (bar_place l w.unit) w.unit w.grain (units w 0)) (codes "</svg>\n") legend
    (rw (c.bar_place.ensures, c.grain.ensures.value, c.units.ensures.units, e) at bar) c.put.ensures

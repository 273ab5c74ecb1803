use Rattle.std.proofs.Common.{rules, FitsSigned, to_z-of_z}
use mir.Syntax.{w128}
use Rattle.vcm_hardware.proofs.Reaches.{slab_is}
use Rattle.vcm_hardware.proofs.swing.swing_slab.Goals as goal

pub returns : goal.returns
returns c =
    let fr : FitsSigned w128 c.args.swing.radius = search rules in
    let fa : FitsSigned w128 c.swing_cut.result = search rules in
    let fb : FitsSigned w128 c.swing_cut-2.result = search rules in
    let r = simp to_z-of_z at c.swing_between.ensures in
    slab_is c.args.swing c.args.index c.swing_cut.result c.swing_cut-2.result c.swing_between.result c.swing_cut.ensures.value c.swing_cut-2.ensures.value r

use Rattle.std.proofs.Common.{rules, FitsSigned, to_z-of_z}
use mir.Syntax.{w128}
use Rattle.vcm_hardware.proofs.Floors.{half_least}
use Rattle.vcm_hardware.proofs.cylinder.half_width.Goals as goal

pub returns-clause-least : goal.returns-clause-least
returns-clause-least c = λ h.
    let fs : FitsSigned w128 c.args.square = search rules in
    let fr : FitsSigned w128 c.root_up.result = search rules in
    let fp : FitsSigned w128 c.spread.result = search rules in
    let least = simp to_z-of_z at c.root_up.ensures.least in
    let small = simp to_z-of_z at c.spread.ensures.small in
    let half = simp to_z-of_z at c.half_up.ensures.small in
    let fh : FitsSigned w128 c.half_up.result = search rules in
    rw (to_z-of_z fh) (half_least c.half_up.result c.spread.result half (small 10000000 (least 10000000 h)))

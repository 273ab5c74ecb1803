use Rattle.std.proofs.Common.{◌≡◌, ◌∙◌, length, ap, rules, arith, w32, FitsSigned, to_z, of_z, to_z-of_z}
use Rattle.vcm_hardware.specs.Boxes.{turning_of, tip_of}
use Rattle.vcm_hardware.proofs.Probes.{turned_of, counted}
use Rattle.vcm_hardware.proofs.boxes.box_count.Goals as goal

pub returns : goal.returns
returns c =
    let h = c.args.hardware.now in
    let choice = c.args.choice.now in
    let ft : FitsSigned w32 c.turn.result = search rules in
    let t = turned_of c.turning_of-turning.result (to_z w32 (of_z w32 c.turn.result)) h.turn choice c.turning_of-turning.ensures (to_z-of_z ft ∙ c.turn.ensures) in
    let tip : c.tip_of.result ≡ tip_of h.balls choice = rw c.balls-balls.ensures at c.tip_of.ensures in
    let n = counted c.parts_count.result c.turning_of-turning.result (turning_of h.turn choice) c.tip_of.result (tip_of h.balls choice) c.parts.result.now h.parts
    c.parts_count.ensures.value t tip c.parts.ensures.parts in
    omega (arith, n, ap length c.balls-balls.ensures, ap length c.heads.ensures, c.saturating_sub.ensures)

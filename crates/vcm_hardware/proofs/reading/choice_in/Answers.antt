use Rattle.std.proofs.Common.{◌≡◌, ◌∙◌, false, Some, rules, sym, w32, FitsSigned, to_z-of_z}
use Rattle.vcm_hardware.specs.HardwareFile.{is_name_taken, is_number_taken, place_of_tip}
use Rattle.toml.specs.View.{table_view}
use Rattle.vcm_hardware.proofs.Choices.{choice_is}
use Rattle.vcm_hardware.proofs.reading.choice_in.Goals as goal

pub returns : goal.returns
returns c =
    let h = c.args.hardware.now in
    let fn : FitsSigned w32 c.own_number.result = search rules in
    let fo : FitsSigned w32 c.in_ok-own.own = search rules in
    let fa : FitsSigned w32 c.in_ok-a.a = search rules in
    let fb : FitsSigned w32 c.in_ok-b.b = search rules in
    let own = simp to_z-of_z at c.in_ok-own.ensures in
    let taken = simp to_z-of_z at c.is_number_taken.ensures in
    let name : is_name_taken c.in_ok-name.name c.args.above.now ≡ false = sym (rw c.as_bytes.ensures at c.is_name_taken.ensures) ∙ c.if-is_name_taken.false in
    let new : is_number_taken c.in_ok-own.own c.args.above.now ≡ false = sym taken ∙ c.if-is_number_taken.false in
    let ball : place_of_tip c.in_ok-tip.tip.now h.balls ≡ Some c.in-Some.tip =
    sym (rw (c.as_bytes-2.ensures.value, c.balls.ensures) at c.place_of_tip.ensures) ∙ c.in-Some.is in
    choice_is h c.args.above.now c.args.number (table_view c.args.table.now) c.in_ok-name.name c.in_ok-tip.tip.now c.in_ok-own.own c.in_ok-a.a c.in_ok-b.b c.in-Some.tip
    c.fitting.result c.in_ok-only.ensures c.in_ok-name.ensures (rw c.own_number.ensures at own) c.in_ok-tip.ensures c.in_ok-a.ensures c.in_ok-b.ensures name new ball
    (simp to_z-of_z at c.fitting.ensures)

use Rattle.std.proofs.Common.{◌∙◌, rules, to_z-of_z, w64, FitsSigned}
use Rattle.vcm_num.specs.Point.{coordinate}
use Rattle.vcm_state.proofs.Lines.{printed_is}
use Rattle.vcm_state.proofs.printed.feature_line.Goals as goal

pub returns : goal.returns
returns c =
    let fx : FitsSigned w64 (coordinate c.args.feature.at 0) = search rules in
    let fy : FitsSigned w64 (coordinate c.args.feature.at 1) = search rules in
    let fz : FitsSigned w64 (coordinate c.args.feature.at 2) = search rules in
    let fi : FitsSigned w64 c.component.result = search rules in
    let fj : FitsSigned w64 c.component-2.result = search rules in
    let fk : FitsSigned w64 c.component-3.result = search rules in
    c.from_vec.ensures
    ∙ rw (
      c.in_ok-write_int-3.ensures.ok,
      c.in_ok-extend_from_slice-8.ensures.items,
      c.in_ok-write_int-2.ensures.ok,
      c.in_ok-extend_from_slice-7.ensures.items,
      c.in_ok-write_int.ensures.ok,
      c.in_ok-extend_from_slice-6.ensures.items,
      c.in_ok-write_thousandths-3.ensures.ok,
      c.in_ok-extend_from_slice-5.ensures.items,
      c.in_ok-write_thousandths-2.ensures.ok,
      c.in_ok-extend_from_slice-4.ensures.items,
      c.in_ok-write_thousandths.ensures.ok,
      c.in_ok-extend_from_slice-3.ensures.items,
      c.in_ok-extend_from_slice-2.ensures.items,
      c.in_ok-extend_from_slice.ensures.items,
      c.new-out.ensures.items,
      c.letters.ensures,
      to_z-of_z fx,
      to_z-of_z fy,
      to_z-of_z fz,
      to_z-of_z fi,
      to_z-of_z fj,
      to_z-of_z fk,
      c.component.ensures,
      c.component-2.ensures,
      c.component-3.ensures,
    )
    (printed_is c.args.source c.args.name.now c.args.feature)

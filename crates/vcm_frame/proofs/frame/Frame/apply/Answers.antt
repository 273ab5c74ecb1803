use Rattle.std.proofs.Common.{◌≡◌, ◌∙◌, ℕ, ℤ, ◌+ℤ◌, ap, sym, rules, FitsSigned, w64, to_z-of_z, refl}
use Rattle.vcm_num.specs.Number.{checked}
use Rattle.vcm_num.specs.Point.{coordinate}
use Rattle.vcm_spec.specs.Frame.{turned}
use Rattle.vcm_num.specs.declared.axis.Axis.TheVariants.{PlusX, PlusY, PlusZ}
use Rattle.vcm_frame.specs.inner.Rows.{unit_row, turn_of, dot}
use Rattle.vcm_frame.proofs.Rows.{plus_x, plus_y, plus_z}
use Rattle.vcm_frame.proofs.frame.Frame.apply.Goals as goal

pub returns-clause-answer : goal.returns-clause-answer
returns-clause-answer c =
    let f = c.self.inside in
    let x : ℕ → ℤ = coordinate c.args.at in
    let fx : FitsSigned w64 (coordinate f.origin 0) = search rules in
    let fy : FitsSigned w64 (coordinate f.origin 1) = search rules in
    let fz : FitsSigned w64 (coordinate f.origin 2) = search rules in
    rw (← c.self.view_is) (c.point_from-2.ensures (λ k. turned f.turn x k +ℤ coordinate f.origin k)
    (c.row_of.ensures ∙ ap (λ o. checked (dot (unit_row c.rows-a.result.0) x +ℤ o)) (to_z-of_z fx) ∙ ap (λ t. checked (turned t x 0 +ℤ coordinate f.origin 0)) (sym c.rows-a.ensures))
    (c.row_of-2.ensures ∙ ap (λ o. checked (dot (unit_row c.rows-a.result.1) x +ℤ o)) (to_z-of_z fy) ∙ ap (λ t. checked (turned t x 1 +ℤ coordinate f.origin 1)) (sym c.rows-a.ensures))
    (c.row_of-3.ensures ∙ ap (λ o. checked (dot (unit_row c.rows-a.result.2) x +ℤ o)) (to_z-of_z fz) ∙ ap (λ t. checked (turned t x 2 +ℤ coordinate f.origin 2)) (sym c.rows-a.ensures)))

pub returns-in-PlusX-PlusY-PlusZ-clause-answer : goal.returns-in-PlusX-PlusY-PlusZ-clause-answer
returns-in-PlusX-PlusY-PlusZ-clause-answer c =
    let f = c.self.inside in
    let x : ℕ → ℤ = coordinate c.args.at in
    let fx : FitsSigned w64 (coordinate f.origin 0) = search rules in
    let fy : FitsSigned w64 (coordinate f.origin 1) = search rules in
    let fz : FitsSigned w64 (coordinate f.origin 2) = search rules in
    let ax : FitsSigned w64 (x 0) = search rules in
    let ay : FitsSigned w64 (x 1) = search rules in
    let az : FitsSigned w64 (x 2) = search rules in
    let first : c.rows-a.result.0 ≡ PlusX = c.in-PlusX-PlusY-PlusZ.is-0 in
    let second : c.rows-a.result.1 ≡ PlusY = c.in-PlusX-PlusY-PlusZ.is-1 in
    let third : c.rows-a.result.2 ≡ PlusZ = c.in-PlusX-PlusY-PlusZ.is-2 in
    let straight : f.turn ≡ turn_of PlusX PlusY PlusZ = c.rows-a.ensures ∙ rw (first, second, third) refl in
    rw (← c.self.view_is) (c.point_from.ensures (λ k. turned f.turn x k +ℤ coordinate f.origin k)
    (rw (c.add.ensures, to_z-of_z ax, to_z-of_z fx, straight) (plus_x x (coordinate f.origin 0) _ refl))
    (rw (c.add-in-PlusX-PlusY-PlusZ.ensures, to_z-of_z ay, to_z-of_z fy, straight) (plus_y x (coordinate f.origin 1) _ refl))
    (rw (c.add-in-PlusX-PlusY-PlusZ-2.ensures, to_z-of_z az, to_z-of_z fz, straight) (plus_z x (coordinate f.origin 2) _ refl)))

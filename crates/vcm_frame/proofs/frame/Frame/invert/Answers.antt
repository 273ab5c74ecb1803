use Rattle.std.proofs.Common.{◌∙◌, ℕ, ℤ, ◌-ℤ◌, ap, sym}
use Rattle.vcm_num.specs.Number.{checked}
use Rattle.vcm_num.specs.Point.{coordinate}
use Rattle.vcm_spec.specs.Frame.{turned, turn_back}
use Rattle.vcm_frame.proofs.frame.Frame.invert.Goals as goal

pub returns-clause-answer : goal.returns-clause-answer
returns-clause-answer c =
    let f = c.self.inside in
    let y : ℕ → ℤ = (λ k. coordinate c.args.at k -ℤ coordinate f.origin k) in
    rw (← c.self.view_is) (c.point_from.ensures (turned (turn_back f.turn) y) (c.row_between.ensures ∙ ap (λ t. checked (turned t y 0)) (sym c.columns-a.ensures))
    (c.row_between-2.ensures ∙ ap (λ t. checked (turned t y 1)) (sym c.columns-a.ensures)) (c.row_between-3.ensures ∙ ap (λ t. checked (turned t y 2)) (sym c.columns-a.ensures)))

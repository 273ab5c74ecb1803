use Rattle.std.proofs.Common.{◌∙◌, sym, Some, None}
use Rattle.vcm_untried.proofs.Touching.{other_line, this_line}
use Rattle.vcm_untried.proofs.points.+point_before.Goals as goal

pub returns-then-statement-line : goal.returns-then-statement-line
returns-then-statement-line t c =
    other_line c.args.loaded.now.statements c.args.line c.args.number c.if-number-eq0.false c.statement-statement.result c.statement-statement.ensures
    c.if-statement-line.true

pub returns-in-Some : goal.returns-in-Some
returns-in-Some t c =
    this_line c.args.loaded.now.statements c.args.line c.args.number c.if-number-eq0.false c.statement-statement.result c.statement-statement.ensures
    c.if-statement-line.false (Some c.in-Some.feature) (sym c.in-Some.is ∙ c.touched.ensures)

pub returns-in-None : goal.returns-in-None
returns-in-None t c =
    c.point_before.ensures
    ∙ this_line c.args.loaded.now.statements c.args.line c.args.number c.if-number-eq0.false c.statement-statement.result c.statement-statement.ensures
    c.if-statement-line.false None (sym c.in-None.is ∙ c.touched.ensures)

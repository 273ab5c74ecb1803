use Rattle.std.proofs.Common.{sym, ◌∙◌}
use Rattle.std.proofs.lemmas.Result.{on_ok_weaker}
use Rattle.vcm_untried.specs.Marking.{marks_in}
use Rattle.vcm_untried.proofs.Markings.{known_still, known_else}
use Rattle.vcm_untried.proofs.marking.know.Goals as goal

pub returns-then-is_same : goal.returns-then-is_same
returns-then-is_same c =
    known_still (marks_in c.args.to.now) c.args.step c.args.line c.args.known c.if-line-eq1.false (sym c.is_same.ensures ∙ c.if-is_same.true)

pub returns : goal.returns
returns c =
    let other = known_else (marks_in c.args.to.now) c.args.step c.args.line c.args.known c.if-line-eq1.false (sym c.is_same.ensures ∙ c.if-is_same.false) in
    on_ok_weaker c.learn.result (λ e. e ∙ other) c.learn.ensures

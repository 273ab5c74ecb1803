use Rattle.std.proofs.Common.{[], ◌∷◌, ◌++◌, sym, ap, ◌∙◌}
use Rattle.vcm_untried.proofs.Spanning.{joined, followed}
use Rattle.vcm_untried.proofs.spans.add_span.Goals as goal

pub returns-in_ok-push-in-Some : goal.returns-in_ok-push-in-Some
returns-in_ok-push-in-Some c =
    joined c.args.spans.now.items c.pop.new.self.items c.in-Some.last c.args.line c.args.count c.in-Some.ensures.items (sym c.joins.ensures ∙ c.if-joins.true) _ (c.in_ok-push-in-Some.ensures.items ∙ ap (λ s. c.pop.new.self.items ++ s ∷ []) c.longer.ensures)

pub returns-in_ok-push-in-Some-3 : goal.returns-in_ok-push-in-Some-3
returns-in_ok-push-in-Some-3 c =
    followed c.args.spans.now.items c.pop.new.self.items c.in-Some.last c.args.line c.args.count c.in-Some.ensures.items (sym c.joins.ensures ∙ c.if-joins.false) _ _
    c.in_ok-push-in-Some-2.ensures.items (c.in_ok-push-in-Some-3.ensures.items ∙ ap (λ s. c.push-else-joins.new.self.items ++ s ∷ []) c.alone-else-joins.ensures)

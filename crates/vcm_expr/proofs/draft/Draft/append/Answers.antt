use Rattle.std.proofs.Common.{ap, ◌∙◌, ◌∷◌, subst}
use Rattle.vcm_expr.specs.Source.{IsSize}
use Rattle.vcm_expr.proofs.PieceLemmas.{other_holds, other_view, plain_is}
use Rattle.vcm_expr.proofs.draft.Draft.append.Goals as goal

pub invariant_of-self-2 : goal.invariant_of-self-2
invariant_of-self-2 c = other_holds c.args.e.now _ _ _ c.self.invariant c.pieces.ensures.parts c.in_ok-append_copies.ensures.ok

pub returns-clause-ok : goal.returns-clause-ok
returns-clause-ok c =
    (other_view c.args.e.now _ _ _ _ c.self.view_is c.self.invariant c.pieces.ensures.parts c.in_ok-append_copies.ensures.ok, c.size.ensures)

pub returns-in-Some-clause-ok : goal.returns-in-Some-clause-ok
returns-in-Some-clause-ok c =
    let r = c.in_ok-size.ensures.ok in
    let e = plain_is c.in-Some.term c.args.e.now c.in-Some.ensures in
    (r.0 ∙ ap (λ x. x ∷ c.args.self.now) e, subst (λ x. IsSize c.in_ok-size.size x) e r.1)

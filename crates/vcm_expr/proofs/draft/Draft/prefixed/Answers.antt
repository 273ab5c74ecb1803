use Rattle.std.proofs.Common.{◌∙◌, arith}
use Rattle.vcm_expr.proofs.PieceLemmas.{front_view, front_holds, front_sized}
use Rattle.vcm_expr.proofs.draft.Draft.prefixed.Goals as goal

pub invariant_of-self-2 : goal.invariant_of-self-2
invariant_of-self-2 c = front_holds c.args.prefix c.requires.0 c.requires.1 _ _ (c.self.view_is ∙ c.requires.2) c.self.invariant c.in_ok-push.ensures.items

pub returns-clause-ok : goal.returns-clause-ok
returns-clause-ok c e es h z =
    let s = c.in_ok-size.ensures.ok in (
      front_view c.args.prefix e es _ _ (c.self.view_is ∙ h) c.self.invariant c.in_ok-push.ensures.items,
      front_sized c.in_ok-size.size c.args.a c.args.prefix e (omega (arith, s.0)) (omega (arith, s.1)) (omega (arith, s.0, s.2)) (omega (arith, s.1, s.3)) z,
    )

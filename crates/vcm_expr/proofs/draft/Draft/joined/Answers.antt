use Rattle.std.proofs.Common.{◌∙◌, arith, rules}
use Rattle.vcm_expr.proofs.PieceLemmas.{between_view, between_holds, between_sized}
use Rattle.vcm_expr.proofs.draft.Draft.joined.Goals as goal

pub invariant_of-self-2 : goal.invariant_of-self-2
invariant_of-self-2 c = between_holds c.args.op c.requires.0 c.requires.1 c.requires.2 _ _ (c.self.view_is ∙ c.requires.3) c.self.invariant c.in_ok-push.ensures.items

pub returns-clause-ok : goal.returns-clause-ok
returns-clause-ok c e f es h y z =
    let s = c.in_ok-size.ensures.ok in (
      between_view c.args.op e f es _ _ (c.self.view_is ∙ h) c.self.invariant c.in_ok-push.ensures.items,
      between_sized c.in_ok-size.size c.args.a c.args.b c.args.op e f (omega (arith, s.0, c.max-depth.ensures)) (omega (arith, s.1)) (omega (arith, s.0, s.2)) (omega (arith, s.1, s.3)) y z,
    )

pub returns-in_err-size-clause-unchanged : goal.returns-in_err-size-clause-unchanged
returns-in_err-size-clause-unchanged c = search rules

use Rattle.std.proofs.Common.{inr, refl, ap, ◌∷◌, ◌∙◌}
use Rattle.std.proofs.lemmas.Result.{err_from_is_err_and}
use Rattle.vcm_expr.proofs.Whole.{whole_refuses, whole_extra, whole_finished, whole_lone}
use Rattle.vcm_expr.proofs.parser.whole.Goals as goal

pub returns-in-Some : goal.returns-in-Some
returns-in-Some c = whole_lone c.args.words c.in-Some.term c.args.line c.lone-in-Some.result c.in-Some.ensures c.lone-in-Some.ensures

pub returns-in_err-size : goal.returns-in_err-size
returns-in_err-size c =
    let p = err_from_is_err_and c.from_residual-in_err-size.result c.from_residual-in_err-size.ensures.1 in
    rw (p.1, p.2) (whole_refuses c.args.line c.args.words _ c.in_err-size.ensures.fault)

pub finish-requires : goal.finish-requires
finish-requires c = let r = c.in_ok-size.ensures.ok in (r.tree, r.there ∙ ap (λ es. r.tree ∷ es) c.in_ok-draft.ensures.ok, r.sized)

pub returns-then-is_empty : goal.returns-then-is_empty
returns-then-is_empty c =
    let r = c.in_ok-size.ensures.ok in
    whole_finished c.args.words r.tree c.finish.result _ _ r.read (c.is_empty.ensures.none c.if-is_empty.true) (r.there ∙ ap (λ es. r.tree ∷ es) c.in_ok-draft.ensures.ok) c.finish.ensures

pub returns-else-is_empty : goal.returns-else-is_empty
returns-else-is_empty c =
    let r = c.in_ok-size.ensures.ok in
    let more = c.is_empty.ensures.some c.if-is_empty.false in
    rw c.bad_syntax.ensures (inr (refl, whole_extra c.args.words r.tree _ more.0 more.1 r.read more.2))

use Rattle.std.proofs.Common.{◌≡◌, [], refl, ap, ◌∙◌, rules}
use Rattle.std.proofs.lemmas.Result.{err_from_is_err_and}
use Rattle.vcm_expr.specs.Source.{Prefixed, is_small}
use Rattle.vcm_expr.specs.Parser.{phrase, with_fronts}
use Rattle.vcm_expr.proofs.Fronts.{put_step, signs_told}
use Rattle.vcm_expr.proofs.signs.with_signs.Goals as goal

pub signs-init : goal.signs-init
signs-init c = λ e es h z. (e, h, z, λ r. refl)

pub prefixed-requires : goal.prefixed-requires
prefixed-requires c =
    let i = c.signs.invariant c.requires.0 c.requires.1 c.requires.2 c.requires.3 in
    (i.0, c.requires.1, i.1, i.2)

pub returns-in_err-size-clause-fault : goal.returns-in_err-size-clause-fault
returns-in_err-size-clause-fault c =
    let p = err_from_is_err_and c.from_residual.result c.from_residual.ensures.1 in
    rw (p.1, p.2) (signs_told c.args.line c.args.signs.items c.signs.signs.items c.pop.new.self.items c.in-Some.sign c.args.size c.signs.size c.args.draft.now
    c.signs.draft _ c.in-Some.ensures.items c.signs.invariant c.in_err-size.ensures.fault)

pub signs-preserved : goal.signs-preserved
signs-preserved c = λ e es h z.
    let i = c.signs.invariant e es h z in
    let j = c.in_ok-size.ensures.ok i.0 es i.1 i.2 in
    (Prefixed c.in-Some.sign i.0, j.0, j.1, λ r. put_step is_small _ c.signs.signs.items c.pop.new.self.items c.in-Some.sign i.0 _ r c.in-Some.ensures.items refl j.1.small (i.3 r))

pub returns-clause-ok : goal.returns-clause-ok
returns-clause-ok c = λ e es r h z.
    let none : c.signs.signs.items ≡ [] = search rules in
    let i = c.signs.invariant e es h z in
    record { tree = i.0; read = i.3 r ∙ ap (λ ops. with_fronts is_small ops (phrase i.0 r)) none; there = i.1; sized = i.2 }

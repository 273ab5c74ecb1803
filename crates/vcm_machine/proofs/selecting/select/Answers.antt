use Rattle.std.proofs.Common.{◌∙◌, ap, sym, refl, rules, FitsSigned, w64, to_z-of_z}
use Rattle.std.proofs.lemmas.Result.{err_from_is_err_and}
use Rattle.std.specs.Int.{w16}
use Rattle.vcm_num.specs.declared.number.Kind.TheVariants.{Int}
use Rattle.vcm_code.specs.CodeTable.{code_state}
use Rattle.vcm_fields.specs.Readers.{both, expression_at, branches_at, target_at}
use Rattle.vcm_fields.proofs.Taking.{number_there, both_are}
use Rattle.vcm_machine.proofs.SelectSteps.{select_stops, select_goes, counted_there, counted}
use Rattle.vcm_machine.proofs.selecting.select.Goals as goal

pub value-requires : goal.value-requires
value-requires c =
    let t = both_are expression_at (both branches_at target_at) _ _ _ c.requires.2 in
    (Int, (c.requires.0.0, t.0, t.1, c.requires.3))

pub known_short-count-requires : goal.known_short-count-requires
known_short-count-requires c =
    let t = both_are expression_at (both branches_at target_at) _ _ _ c.requires.2 in
    number_there w16 _ _ (counted_there _ _ _ (ap (both branches_at target_at) (c.in_ok-wanted.ensures.value _ _ t.1).1 ∙ t.2)).2

pub target_for-requires : goal.target_for-requires
target_for-requires c =
    let t = both_are expression_at (both branches_at target_at) _ _ _ c.requires.2 in
    (c.requires.0.1, c.requires.1, counted _ _ _ (ap (both branches_at target_at) (c.in_ok-wanted.ensures.value _ _ t.1).1 ∙ t.2) _ _ c.known_short-count.ensures, tt)

pub returns-in_err-wanted : goal.returns-in_err-wanted
returns-in_err-wanted c =
    let p = err_from_is_err_and c.from_residual.result c.from_residual.ensures.1 in
    rw (p.1, p.2) (λ setup line ps o rest h.
    let t = both_are expression_at (both branches_at target_at) _ o rest h in
    (select_stops setup c.args.world.now.state o.0 o.1.0 o.1.1 line c.args.next ps _ (c.in_err-wanted.ensures.fault o.0 t.0 t.1), refl, refl))

pub returns : goal.returns
returns c setup line ps o rest h =
    let fw : FitsSigned w64 c.in_ok-wanted.wanted = search rules in
    let t = both_are expression_at (both branches_at target_at) _ o rest h in
    let v = c.in_ok-wanted.ensures.value o.0 t.0 t.1 in
    let there = counted _ o.1 rest (ap (both branches_at target_at) v.1 ∙ t.2) _ _ c.known_short-count.ensures in
    let to = rw (to_z-of_z fw) at (c.target_for.ensures o.1 rest there) in
    select_goes setup c.args.world.now.state o.0 o.1.0 o.1.1 line c.args.next ps _ v.0
    ∙ ap (λ k. code_state c.args.world.now.state k ps) (sym to)

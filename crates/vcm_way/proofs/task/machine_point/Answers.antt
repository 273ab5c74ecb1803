use Rattle.std.proofs.Common.{◌≡◌, rules, sym, subst, FitsSigned, w64, to_z-of_z}
use Rattle.std.proofs.lemmas.Result.{err_from_is_err_and}
use Rattle.vcm_num.specs.Point.{point}
use Rattle.vcm_spec.specs.Outcome.{Answers}
use Rattle.vcm_way.proofs.Sent.{first_fault, second_fault, third_fault, all_given}
use Rattle.vcm_way.proofs.task.machine_point.Goals as goal

pub returns-in_err-x : goal.returns-in_err-x
returns-in_err-x c =
    let p = err_from_is_err_and c.from_residual.result c.from_residual.ensures.1 in
    rw (p.1, p.2) (first_fault c.args.world.now.state c.args.x.now c.args.y.now c.args.z.now _ c.in_err-x.ensures)

pub returns-in_err-y : goal.returns-in_err-y
returns-in_err-y c =
    let p = err_from_is_err_and c.from_residual-in_err-y.result c.from_residual-in_err-y.ensures.1 in
    rw (p.1, p.2) (second_fault c.args.world.now.state c.args.x.now c.args.y.now c.args.z.now _ _ c.in_ok-x.ensures c.in_err-y.ensures)

pub returns-in_err-z : goal.returns-in_err-z
returns-in_err-z c =
    let p = err_from_is_err_and c.from_residual-in_err-z.result c.from_residual-in_err-z.ensures.1 in
    rw (p.1, p.2) (third_fault c.args.world.now.state c.args.x.now c.args.y.now c.args.z.now _ _ _ c.in_ok-x.ensures c.in_ok-y.ensures c.in_err-z.ensures)

pub returns : goal.returns
returns c =
    let fx : FitsSigned w64 c.in_ok-x.x = search rules in
    let fy : FitsSigned w64 c.in_ok-y.y = search rules in
    let fz : FitsSigned w64 c.in_ok-z.z = search rules in
    let is : c.new.result ≡ point c.in_ok-x.x c.in_ok-y.y c.in_ok-z.z = rw (to_z-of_z fx, to_z-of_z fy, to_z-of_z fz) at c.new.ensures in
    subst (λ o. Answers o c.apply.result) (sym (all_given c.args.world.now.state c.args.x.now c.args.y.now c.args.z.now _ _ _ c.in_ok-x.ensures c.in_ok-y.ensures c.in_ok-z.ensures))
    (rw (is, c.frame.ensures) at c.apply.ensures.answer)

use Rattle.std.proofs.Common.{pos, refl}
use Rattle.std.proofs.lemmas.Result.{err_from_is_err_and}
use Rattle.vcm_num.proofs.KnownWrites.{front_first, wrote_then}
use Rattle.vcm_spec.specs.Frame.{to_machine}
use Rattle.vcm_spec.specs.Outcome.{point_at}
use Rattle.vcm_why.proofs.framed.write_shape.Goals as goal

pub returns-in_err-write_origin_at : goal.returns-in_err-write_origin_at
returns-in_err-write_origin_at g c =
    let p = err_from_is_err_and c.from_residual.result c.from_residual.ensures.1 in
    rw p.1 (front_first _ _ _ _ _ refl (c.in_err-write_origin_at.ensures (point_at (to_machine c.args.frame (λ k. pos 0))) c.apply.ensures.answer))

pub returns : goal.returns
returns g c =
    wrote_then _ _ _ _ _ _ _ refl (c.in_ok-write_origin_at.ensures (point_at (to_machine c.args.frame (λ k. pos 0))) c.apply.ensures.answer) c.write_axes.ensures

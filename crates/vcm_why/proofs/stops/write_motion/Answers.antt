use Rattle.std.proofs.Common.{refl, ap, ◌∙◌}
use Rattle.std.proofs.lemmas.Result.{err_from_is_err_and}
use Rattle.vcm_num.proofs.KnownWrites.{front_first, front_then, wrote_then}
use Rattle.vcm_cause.specs.Cause.{cause_of}
use Rattle.vcm_why.proofs.stops.write_motion.Goals as goal

pub returns-in_err-write_cause : goal.returns-in_err-write_cause
returns-in_err-write_cause g c =
    let cause = c.cause_of-cause.ensures ∙ ap (cause_of c.args.part.now) c.as_slice.ensures in
    let p = err_from_is_err_and c.from_residual.result c.from_residual.ensures.1 in
    rw (p.1, c.statement-statement.ensures) (front_first _ _ _ _ _ refl (rw cause at c.in_err-write_cause.ensures))

pub returns-in_err-write_hints : goal.returns-in_err-write_hints
returns-in_err-write_hints g c =
    let cause = c.cause_of-cause.ensures ∙ ap (cause_of c.args.part.now) c.as_slice.ensures in
    let p = err_from_is_err_and c.from_residual-in_err-write_hints.result c.from_residual-in_err-write_hints.ensures.1 in
    rw (p.1, c.statement-statement.ensures) (front_then _ _ _ _ _ _ refl (rw cause at c.in_ok-write_cause.ensures) (front_first _ _ _ _ _ refl (rw cause at c.in_err-write_hints.ensures)))

pub returns : goal.returns
returns g c =
    let cause = c.cause_of-cause.ensures ∙ ap (cause_of c.args.part.now) c.as_slice.ensures in
    rw c.statement-statement.ensures (wrote_then _ _ _ _ _ _ _ refl (rw cause at c.in_ok-write_cause.ensures)
    (wrote_then _ _ _ _ _ _ _ refl (rw cause at c.in_ok-write_hints.ensures) (rw (c.frame.ensures, cause) at c.write_frame.ensures)))

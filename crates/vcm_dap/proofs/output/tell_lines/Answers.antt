use Rattle.std.proofs.Common.{arith, sym, Err}
use Rattle.std.proofs.lemmas.Result.{err_from_is_err_and}
use Rattle.std.proofs.lemmas.Grind.{common_steps}
use Rattle.vcm_dap.specs.Telling.{IsPiece}
use Rattle.vcm_dap.proofs.Telling.{told_more, told_not}
use Rattle.vcm_dap.proofs.output.tell_lines.Goals as goal

pub returns-in_err-tell_few : goal.returns-in_err-tell_few
returns-in_err-tell_few g c =
    let p = err_from_is_err_and c.from_residual.result c.from_residual.ensures.1 in
    let is : IsPiece c.split_at.result.0.now = grind (arith, common_steps) in
    rw p.1 (c.loop-rest.invariant c.tell_few.new.talk (Err p.0)
    (told_not c.loop-rest.talk c.tell_few.new.talk c.split_at.result.0.now c.split_at.result.1.now c.loop-rest.rest.now c.in_err-tell_few.field-0.0 p.0 is
    (sym c.split_at.ensures.by_index.0) c.in_err-tell_few.ensures))

pub loop-rest-preserved : goal.loop-rest-preserved
loop-rest-preserved g c =
    let is : IsPiece c.split_at.result.0.now = grind (arith, common_steps) in
    λ new r h. c.loop-rest.invariant new r
    (told_more c.loop-rest.talk c.tell_few.new.talk new c.split_at.result.0.now c.split_at.result.1.now c.loop-rest.rest.now c.in_ok-tell_few.field-0 r is
    (sym c.split_at.ensures.by_index.0) c.in_ok-tell_few.ensures h)

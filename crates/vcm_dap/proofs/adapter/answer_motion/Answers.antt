use Rattle.vcm_dap.proofs.Telling.{first_one, first_two}
use Rattle.vcm_dap.proofs.adapter.answer_motion.Goals as goal

pub returns-then-is_step_out : goal.returns-then-is_step_out
returns-then-is_step_out g c =
    first_two c.args.talk.now c.answer_moving.new.talk c.tell_text.new.self c.args.request.now.seq c.args.request.now.command.now c.args.motion c.is_continue.result
    c.is_step_out.result c.in_ok-answer_moving.field-0 c.tell_text.result c.is_continue.ensures c.is_step_out.ensures c.if-is_step_out.true
    c.in_ok-answer_moving.ensures c.tell_text.ensures.told

pub returns : goal.returns
returns g c =
    first_one c.args.talk.now c.answer_moving.new.talk c.args.request.now.seq c.args.request.now.command.now c.args.motion c.is_continue.result c.is_step_out.result
    c.in_ok-answer_moving.field-0 c.is_continue.ensures c.is_step_out.ensures c.if-is_step_out.false c.in_ok-answer_moving.ensures

use Rattle.std.proofs.Common.{◌∙◌}
use Rattle.vcm_dap.specs.Talking.{next_seq}
use Rattle.vcm_dap.specs.Telling.{lines_event}
use Rattle.vcm_dap.proofs.Telling.{told_text}
use Rattle.vcm_dap.proofs.output.tell_few.Goals as goal

pub returns-in-Ok : goal.returns-in-Ok
returns-in-Ok g c =
    told_text c.args.talk.now c.tell_text.new.self c.deref.result.now c.args.lines.now c.tell_text.result (c.deref.ensures.value ∙ c.in-Ok.ensures) c.tell_text.ensures.told

pub returns-in-Err : goal.returns-in-Err
returns-in-Err g c = c.pass_over.ensures.told (lines_event (next_seq c.args.talk.now.seq) c.args.lines.now)

use Rattle.vcm_dap.proofs.Telling.{behind_then}
use Rattle.vcm_dap.proofs.standing.tell_result.Goals as goal

pub returns : goal.returns
returns g c =
    let d = c.args.session.now in
    behind_then d c.args.talk.now c.tell_end.new.talk c.tell_steps.new.talk c.tell_steps.result c.in_ok-tell_end.ensures
    (behind_then d c.tell_end.new.talk c.tell_position.new.talk c.tell_steps.new.talk c.tell_steps.result c.in_ok-tell_position.ensures c.tell_steps.ensures)

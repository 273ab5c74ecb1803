use Rattle.vcm_dap.proofs.Telling.{some_text, behind_then}
use Rattle.vcm_dap.proofs.standing.stand_stopped.Goals as goal

pub returns : goal.returns
returns g c =
    λ d is. behind_then d c.args.talk.now c.tell_placed.new.talk c.tell_stopped-2.new.talk c.tell_stopped-2.result
    (some_text d c.args.talk.now c.tell_placed.new.talk _ c.args.line.now is c.in_ok-tell_placed.ensures.told) (c.tell_stopped-2.ensures d)

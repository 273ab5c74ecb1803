use Rattle.std.proofs.Common.{inl, inr, refl}
use Rattle.std.specs.Prelude.{codes}
use Rattle.vcm_dap.specs.Talking.{next_seq, event_front}
use Rattle.vcm_dap.specs.Telling.{IsBehind}
use Rattle.vcm_dap.proofs.Telling.{told_grown, behind_one}
use Rattle.vcm_dap.proofs.standing.tell_exit.Goals as goal

pub returns : goal.returns
returns g c =
    λ d. behind_one d c.args.talk.now c.send_put.new.self c.send_put.result
    (told_grown (IsBehind d) c.args.talk.now c.send_put.new.self (event_front (next_seq c.args.talk.now.seq) (codes "exited")) c.in_ok-message.message
    c.put_status-put.new.message c.put_status-put.result c.send_put.result (λ ts. inr (inl (next_seq c.args.talk.now.seq, ts, refl))) c.in_ok-message.ensures
    c.put_status-put.ensures c.send_put.ensures.told
    c.send_put.ensures.untold)

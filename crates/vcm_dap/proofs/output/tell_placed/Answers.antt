use Rattle.std.proofs.Common.{refl}
use Rattle.vcm_dap.specs.Talking.{next_seq, output_front}
use Rattle.vcm_dap.specs.Telling.{IsOutput}
use Rattle.vcm_dap.proofs.Telling.{told_grown}
use Rattle.vcm_dap.proofs.output.tell_placed.Goals as goal

pub returns-clause-told : goal.returns-clause-told
returns-clause-told g c =
    told_grown (IsOutput c.args.category.now c.args.text.now) c.args.talk.now c.send_put.new.self (output_front (next_seq c.args.talk.now.seq) c.args.category.now c.args.text.now)
    c.in_ok-message.message c.put_place-put.new.message c.put_place-put.result c.send_put.result
    (λ ts. (next_seq c.args.talk.now.seq, ts, refl)) c.in_ok-message.ensures c.put_place-put.ensures c.send_put.ensures.told
    c.send_put.ensures.untold

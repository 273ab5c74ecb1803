use Rattle.std.proofs.Common.{[], inl, inr, refl}
use Rattle.std.specs.Prelude.{codes}
use Rattle.vcm_dap.specs.Talking.{next_seq, event_front, ended}
use Rattle.vcm_dap.proofs.Telling.{behind_told, behind_then}
use Rattle.vcm_dap.proofs.standing.finish.Goals as goal

pub returns : goal.returns
returns g c =
    let d = c.args.session.now in
    behind_then d c.args.talk.now c.tell_exit.new.talk c.tell.new.self c.tell.result (c.in_ok-tell_exit.ensures d)
    (behind_told d c.tell_exit.new.talk c.tell.new.self (ended (event_front (next_seq c.tell_exit.new.talk.seq) (codes "terminated"))) c.tell.result
    (inr (inr (inl (next_seq c.tell_exit.new.talk.seq, [], refl)))) c.tell.ensures.told)

use Rattle.std.proofs.Common.{◌∙◌}
use Rattle.vcm_dap.specs.Talking.{counted, ended}
use Rattle.vcm_dap.proofs.Told.{written_as, told_one}
use Rattle.vcm_dap.proofs.talk.Talk.send.Goals as goal

pub returns-in-Ok : goal.returns-in-Ok
returns-in-Ok g c =
    let told = written_as (counted c.args.self.now) c.hand_on.new.self c.deref.result.now _ c.hand_on.result (c.deref.ensures.value ∙ c.in-Ok.ensures) c.hand_on.ensures in
    record { told = told; says = told_one c.args.self.now c.hand_on.new.self (ended c.args.message) c.hand_on.result told }

pub returns-in-Err : goal.returns-in-Err
returns-in-Err g c = record { told = c.pass_over.ensures.told (ended c.args.message); says = c.pass_over.ensures.says }

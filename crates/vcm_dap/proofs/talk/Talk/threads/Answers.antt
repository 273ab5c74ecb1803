use Rattle.vcm_dap.proofs.Told.{made_as, told_one}
use Rattle.vcm_dap.proofs.talk.Talk.threads.Goals as goal

pub returns : goal.returns
returns g c =
    let told = made_as (λ m. m) c.args.self.now c.send_made.new.self _ c.threaded-made.result c.send_made.result c.threaded-made.ensures c.send_made.ensures.told c.send_made.ensures.untold in
    record { told = told; says = told_one c.args.self.now c.send_made.new.self _ c.send_made.result told }

use Rattle.vcm_dap.proofs.Told.{made_as, told_one}
use Rattle.vcm_dap.proofs.talk.Talk.tell_text.Goals as goal

pub returns : goal.returns
returns g c =
    let told = made_as (λ m. m) c.args.self.now c.send_made.new.self _ c.output-made.result c.send_made.result c.output-made.ensures c.send_made.ensures.told c.send_made.ensures.untold in
    record { told = told; says = told_one c.args.self.now c.send_made.new.self _ c.send_made.result told }

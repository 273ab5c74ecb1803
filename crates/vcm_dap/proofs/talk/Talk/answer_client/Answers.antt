use Rattle.vcm_dap.proofs.Told.{made_as, told_one}
use Rattle.vcm_dap.proofs.talk.Talk.answer_client.Goals as goal

pub returns-then-not-has_paths-clause-told : goal.returns-then-not-has_paths-clause-told
returns-then-not-has_paths-clause-told g c = rw c.if-not-has_paths.true c.refuse.ensures.told

pub returns : goal.returns
returns g c =
    let told = made_as (λ m. m) c.args.self.now c.send_made.new.self _ c.able-made.result c.send_made.result c.able-made.ensures c.send_made.ensures.told c.send_made.ensures.untold in
    record { told = rw c.if-not-has_paths.false told; says = told_one c.args.self.now c.send_made.new.self _ c.send_made.result told }

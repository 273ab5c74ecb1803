use Rattle.vcm_dap.proofs.Told.{initial}
use Rattle.vcm_dap.proofs.talk.Talk.initialize.Goals as goal

pub returns-in-Ok-clause-told : goal.returns-in-Ok-clause-told
returns-in-Ok-clause-told g c =
    initial c.args.self.now c.count_from.new.self c.answer_client.new.self c.counts_from_0.result _ c.has_paths-has_paths.result _ c.args.request.now.seq
    c.args.request.now.command.now c.in-Ok.field-0 c.has_paths-has_paths.result c.count_from.ensures c.counts_from_0.ensures c.has_paths-has_paths.ensures
    c.in-Ok.ensures.told

use Rattle.std.proofs.Common.{◌≤◌, length, arith}
use Rattle.std.proofs.lemmas.Grind.{common_steps}
use Rattle.vcm_debug.specs.Debugging.{now}
use Rattle.vcm_dap.proofs.Telling.{told_before}
use Rattle.vcm_dap.proofs.adapter.Adapter.tell_output.Goals as goal

pub returns-then-count-self-clause-told : goal.returns-then-count-self-clause-told
returns-then-count-self-clause-told g c =
    let few : length (now c.args.self.now.session).world.lines ≤ c.args.self.now.told = grind (arith, common_steps) in
    told_before c.args.talk.now (now c.args.self.now.session).world.lines c.args.self.now.told tt few

use Rattle.std.proofs.lemmas.Result.{err_from_is_err_and}
use Rattle.vcm_nodes.proofs.JumpSteps.{phase_clean, phase_told}
use Rattle.vcm_nodes.proofs.jumps.check_jumps.Goals as goal

pub returns-in_err-check_block-clause-fault : goal.returns-in_err-check_block-clause-fault
returns-in_err-check_block-clause-fault c =
    let p = err_from_is_err_and c.from_residual.result c.from_residual.ensures.1 in
    rw (p.1, p.2) (phase_told c.args.all.now c.args.program.now c.new-reach.result _ c.requires c.new-reach.ensures c.in_err-check_block.ensures.fault)

pub returns-clause-clean : goal.returns-clause-clean
returns-clause-clean c = phase_clean c.args.all.now c.args.program.now c.new-reach.result c.requires c.new-reach.ensures c.in_ok-check_block.ensures.ok

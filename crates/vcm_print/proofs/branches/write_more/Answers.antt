use Rattle.std.proofs.Common.{ap}
use Rattle.std.proofs.lemmas.Result.{err_from_is_err_and}
use Rattle.vcm_print.specs.inner.Written.{more_branches}
use Rattle.vcm_print.proofs.Steps.{took_more, took_front}
use Rattle.vcm_print.proofs.branches.write_more.Goals as goal

pub returns-in_err-write_branch : goal.returns-in_err-write_branch
returns-in_err-write_branch g c =
    let p = err_from_is_err_and c.from_residual.result c.from_residual.ensures.1 in
    rw p.1 (took_front _ _ _ _ (more_branches c.in-Some.after) (more_branches c.loop-branch.rest) _ (ap more_branches c.in-Some.ensures) c.loop-branch.invariant c.in_err-write_branch.ensures)

pub loop-branch-preserved : goal.loop-branch-preserved
loop-branch-preserved g c =
    took_more _ _ _ _ (more_branches c.in-Some.after) (more_branches c.loop-branch.rest) _ (ap more_branches c.in-Some.ensures) c.loop-branch.invariant c.in_ok-write_branch.ensures

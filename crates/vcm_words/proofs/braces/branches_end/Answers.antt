use Rattle.std.proofs.Common.{sym, ◌∙◌, ap}
use Rattle.vcm_words.specs.Enclosed.{up_to}
use Rattle.vcm_words.specs.Branches.{branch_in}
use Rattle.vcm_words.proofs.SliceLaws.{read_fails, last_fails, more_fails, last_read, one_read, nothing_left}
use Rattle.vcm_words.proofs.braces.branches_end.Goals as goal

pub returns-in_err-branch_of-in-Some-before_end-clause-none :
    goal.returns-in_err-branch_of-in-Some-before_end-clause-none
returns-in_err-branch_of-in-Some-before_end-clause-none c =
    rw c.from_residual.ensures (read_fails 125 (branch_in c.args.exact) 20000 _ _ _ c.loop-word.invariant
    (ap (up_to 125 (branch_in c.args.exact)) c.in-Some.ensures
    ∙ last_fails 125 (branch_in c.args.exact) _ _ _ c.in-Some-before_end.ensures (sym c.branch_of.ensures ∙ c.in_err-branch_of-in-Some-before_end.was)))

pub returns-in-Some-before_end-clause-some : goal.returns-in-Some-before_end-clause-some
returns-in-Some-before_end-clause-some c =
    last_read 125 (branch_in c.args.exact) 20000 _ _ _ _ _ _ _ _ c.loop-word.invariant c.in-Some.ensures c.in-Some-before_end.ensures
    (sym c.branch_of.ensures ∙ c.in_ok-branch_of-in-Some-before_end.was) c.one_more-count.ensures

pub returns-in_err-branch_of-in-None-clause-none : goal.returns-in_err-branch_of-in-None-clause-none
returns-in_err-branch_of-in-None-clause-none c =
    rw c.from_residual-in_err-branch_of-in-None.ensures
    (read_fails 125 (branch_in c.args.exact) 20000 _ _ _ c.loop-word.invariant
    (ap (up_to 125 (branch_in c.args.exact)) c.in-Some.ensures
    ∙ more_fails 125 (branch_in c.args.exact) _ _ c.in-None.ensures (sym c.branch_of-in-None.ensures ∙ c.in_err-branch_of-in-None.was)))

pub loop-word-preserved : goal.loop-word-preserved
loop-word-preserved c =
    one_read 125 (branch_in c.args.exact) 20000 _ _ _ _ _ _ _ c.loop-word.invariant c.in-Some.ensures c.in-None.ensures
    (sym c.branch_of-in-None.ensures ∙ c.in_ok-branch_of-in-None.was) c.one_more-count.ensures

pub returns-clause-none : goal.returns-clause-none
returns-clause-none c =
    read_fails 125 (branch_in c.args.exact) 20000 _ _ _ c.loop-word.invariant (nothing_left 125 (branch_in c.args.exact) _ c.in_default.ensures)

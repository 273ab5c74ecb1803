use Rattle.std.proofs.Common.{sym, ◌∙◌, FitsSigned, w64, to_z-of_z, rules}
use Rattle.vcm_words.proofs.BranchLaws.{branch_fails, branch_is}
use Rattle.vcm_words.proofs.braces.branch_of.Goals as goal

pub returns-in_err-target : goal.returns-in_err-target
returns-in_err-target c =
    c.from_residual-in_err-target.ensures
    ∙ sym (branch_fails c.args.exact c.args.word.now _ c.in_ok-behind.behind.now _ (rw c.in_ok-behind.was at c.cut.ensures)
    (sym c.signed.ensures ∙ c.in_ok-value.was) (sym c.long.ensures ∙ c.in_err-target.was))

pub returns : goal.returns
returns c =
    let fits : FitsSigned w64 c.in_ok-value.value = search rules in
    rw (to_z-of_z fits) (sym (branch_is c.args.exact c.args.word.now _ c.in_ok-behind.behind.now _ _ (rw c.in_ok-behind.was at c.cut.ensures)
    (sym c.signed.ensures ∙ c.in_ok-value.was) (sym c.long.ensures ∙ c.in_ok-target.was)))

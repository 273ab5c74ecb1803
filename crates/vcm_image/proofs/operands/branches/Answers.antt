use Rattle.std.proofs.Common.{◌≡◌, ◌<◌, ◌++◌, ◌∙◌, length, subst, get_or, pos, rules, FitsSigned, w64, to_z-of_z}
use Rattle.vcm_code.specs.declared.branch.Branch.{Branch}
use Rattle.vcm_fields.specs.Widths.{FitsBranch}
use Rattle.vcm_fields.specs.Spelling.{branch}
use Rattle.vcm_image.proofs.Branches.{one_written, one_fits}
use Rattle.vcm_image.proofs.operands.branches.Goals as goal

pub loop-value-preserved : goal.loop-value-preserved
loop-value-preserved c =
    let l = c.loop-value in
    let items = c.as_slice-value-items.result.now in
    let bs = c.args.branches.now in
    let none : Branch = record { value = pos 0; target = 0 } in
    let same : items ≡ bs = c.as_slice-value-items.ensures in
    let f : FitsSigned w64 (get_or items l.value-index none).value = search rules in
    let within = subst (λ xs. l.value-index < length xs) same c.loop-value-test.true in
    let w = subst (λ xs. c.branch-out.new.out.items ≡ l.out.items ++ branch (get_or xs l.value-index none)) same (rw (to_z-of_z f) at c.in_ok-branch.ensures.bytes) in
    let g = subst (λ xs. FitsBranch (get_or xs l.value-index none)) same (rw (to_z-of_z f) at c.in_ok-branch.ensures.fits) in
    record {
      bytes = one_written bs l.value-index none within l.out.items c.branch-out.new.out.items w ∙ l.invariant.bytes;
      widths = λ h. l.invariant.widths (one_fits bs l.value-index none within g h);
    }

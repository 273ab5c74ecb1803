-- The branches of a SELECT, read as they are spelled.
use Rattle.std.proofs.Common.{◌≤◌, nat_le, length, refl, arith}
use Rattle.vcm_fields.specs.declared.fault.ImageFault.TheVariants.{BadField}
use Rattle.vcm_fields.specs.inner.Fitting.{FitBranches}
use Rattle.vcm_fields.specs.Widths.{FitsBranch}
use Rattle.vcm_fields.specs.Spelling.{branch, branches}
use Rattle.vcm_fields.specs.Readers.{branch_at, branches_at}
use Rattle.vcm_fields.proofs.Inverse.{Reads, reads_both, reads_via, reads_tested, reads_after, reads_times}
use Rattle.vcm_fields.proofs.NumberInverse.{reads_short, reads_long}
use Rattle.vcm_fields.proofs.ItemParts.{reads_signed}

pub reads_branch : Reads branch_at branch FitsBranch
unfolding branch_at
reads_branch = reads_via (reads_both reads_signed reads_long) (λ b. record { value = b.0; target = b.1 }) (λ b. (b.value, b.target)) branch FitsBranch
    (λ b h. refl) (λ b h. h) (λ b h. (refl, refl, h))

pub reads_branches : Reads branches_at branches FitBranches
unfolding branches_at
reads_branches = reads_after (reads_tested reads_short BadField (λ n. nat_le n 20000) (λ n. n ≤ 20000) (λ n lt e. grind arith)
    (λ n h. (omega (arith, h), grind arith))) length (reads_times reads_branch)

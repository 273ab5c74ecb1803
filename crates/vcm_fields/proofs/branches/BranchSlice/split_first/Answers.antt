use Rattle.std.proofs.Common.{sym, ◌∙◌, subst, arith, [], ◌≡◌}
use Rattle.vcm_fields.specs.inner.Slices.{branches_in, AreBranches}
use Rattle.vcm_fields.specs.Readers.{branch_at}
use Rattle.vcm_fields.proofs.Parts.{slice_first, slice_none, First-read, First-fails}
use Rattle.vcm_fields.proofs.branches.BranchSlice.split_first.Goals as goal

pub returns-then-self-eq0 : goal.returns-then-self-eq0
returns-then-self-eq0 c =
    sym c.self.view_is ∙ subst (λ n. AreBranches n c.self.inside.bytes.now → branches_in n c.self.inside.bytes.now ≡ []) (sym c.if-self-eq0.true) (slice_none branch_at _) c.self.invariant

pub invariant_of-result : goal.invariant_of-result
invariant_of-result c = (First-read branch_at _ _ _ _ (slice_first branch_at _ _ c.self.invariant (omega (arith, c.if-self-eq0.false))) c.in_Ok-first.ensures).0

pub unreachable-requires : goal.unreachable-requires
unreachable-requires c = First-fails branch_at _ _ _ (slice_first branch_at _ _ c.self.invariant (omega (arith, c.if-self-eq0.false))) c.in_Err-first.ensures

pub returns : goal.returns
returns c = sym c.self.view_is ∙ (First-read branch_at _ _ _ _ (slice_first branch_at _ _ c.self.invariant (omega (arith, c.if-self-eq0.false))) c.in_Ok-first.ensures).1

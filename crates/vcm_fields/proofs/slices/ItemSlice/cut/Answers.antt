use Rattle.std.proofs.Common.{arith}
use Rattle.std.proofs.lemmas.Result.{err_from_is_err_and}
use Rattle.vcm_fields.specs.Readers.{item_at}
use Rattle.vcm_fields.proofs.LoopInverse.{begun, goes_on, stops, is_done, cuts}
use Rattle.vcm_fields.proofs.ItemParts.{reads_item}
use Rattle.vcm_fields.proofs.Parts.{cut_are, cut_gives}
use Rattle.vcm_fields.proofs.slices.ItemSlice.cut.Goals as goal

pub loop-init : goal.loop-init
loop-init c = begun item_at c.args.count c.args.bytes.now

pub returns-in_err-_item : goal.returns-in_err-_item
returns-in_err-_item c =
    let p = err_from_is_err_and c.from_residual.result c.from_residual.ensures.1 in
    rw (p.1, p.2) (stops item_at _ _ _ _ _ c.loop.invariant c.loop-test.true c.in_err-_item.ensures)

pub loop-preserved : goal.loop-preserved
loop-preserved c = goes_on item_at _ _ _ _ _ _ c.loop.invariant c.loop-test.true c.in_ok-_item.ensures

pub overflow_sub-length : goal.overflow_sub-length
overflow_sub-length c = (cuts reads_item _ _ _ _ (λ i. omega (arith, c.type_inv.bytes i)) (is_done item_at _ _ _ _ c.loop.invariant c.loop-test.false)).shorter

pub invariant_of-result : goal.invariant_of-result
invariant_of-result c = cut_are item_at _ _ _ _ _
    (cuts reads_item _ _ _ _ (λ i. omega (arith, c.type_inv.bytes i)) (is_done item_at _ _ _ _ c.loop.invariant c.loop-test.false)) c.split_at.ensures.front

pub returns : goal.returns
returns c =
    let done = is_done item_at _ _ _ _ c.loop.invariant c.loop-test.false in
    cut_gives item_at _ _ _ _ _ _ (cuts reads_item _ _ _ _ (λ i. omega (arith, c.type_inv.bytes i)) done) c.split_at.ensures.front c.split_at.ensures.back done

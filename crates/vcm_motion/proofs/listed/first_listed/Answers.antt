use Rattle.std.proofs.Common.{arith, rules, refl, ◌<◌, ◌+◌, Some, get_or, length}
use Rattle.std.proofs.lemmas.Grind.{elements}
use Rattle.vcm_num.specs.Point.{coordinate}
use Rattle.vcm_spec.specs.Contact.{TipMeets}
use Rattle.vcm_motion.proofs.Search.{fewer, skip_block, add_block, clear_of_all, hit_of_all}
use Rattle.vcm_motion.proofs.BoxLemmas.{untouched}
use Rattle.vcm_motion.proofs.InOrder.{block_read, read_at, stands_at}
use Rattle.vcm_motion.specs.inner.Listed.{IsListed}
use Rattle.vcm_motion.proofs.Passed.{next_passed, all_passed}
use Rattle.vcm_motion.proofs.listed.first_listed.Goals as goal
use Rattle.vcm_motion.proofs.listed.first_listed.Goals.{in-Some, in_default}

pub crossing-requires-clause-block : goal.crossing-requires-clause-block
crossing-requires-clause-block c =
    let within : get_or c.args.listed.now c.loop-number.number-index 0 < length c.args.blocks.now = grind (arith, elements, c.requires.places) in
    block_read c.args.blocks.now (get_or c.args.listed.now c.loop-number.number-index 0) c.requires.blocks within

pub loop-number-preserved-then-not-is_touching : goal.loop-number-preserved-then-not-is_touching
loop-number-preserved-then-not-is_touching c =
    let i = get_or c.args.listed.now c.loop-number.number-index 0 in
    let within : get_or c.args.listed.now c.loop-number.number-index 0 < length c.args.blocks.now = grind (arith, elements, c.requires.places) in
    fewer c.args.blocks.now (TipMeets c.args.tip (coordinate c.args.from) (coordinate c.args.to)) _ (IsListed c.args.listed.now 0 (c.loop-number.number-index + 1))
    (next_passed c.args.listed.now c.loop-number.number-index _ refl) c.loop-number.first
    (skip_block c.args.blocks.now (TipMeets c.args.tip (coordinate c.args.from) (coordinate c.args.to))
    (IsListed c.args.listed.now 0 c.loop-number.number-index) i (read_at c.args.blocks.now i) (stands_at c.args.blocks.now i within)
    (untouched c.args.tip (read_at c.args.blocks.now i) c.box_of-area.result c.args.from c.args.to c.is_touching.result c.box_of-area.ensures c.is_touching.ensures (search rules))
    c.loop-number.first c.loop-number.invariant)

pub loop-number-preserved : goal.loop-number-preserved
loop-number-preserved c =
    let i = get_or c.args.listed.now c.loop-number.number-index 0 in
    let within : get_or c.args.listed.now c.loop-number.number-index 0 < length c.args.blocks.now = grind (arith, elements, c.requires.places) in
    let stands = stands_at c.args.blocks.now i within in
    elim c.match-crossing.branch [
      | in-Some w ↦ rw w.first-is (fewer c.args.blocks.now (TipMeets c.args.tip (coordinate c.args.from) (coordinate c.args.to)) _ (IsListed c.args.listed.now 0 (c.loop-number.number-index + 1))
          (next_passed c.args.listed.now c.loop-number.number-index _ refl) (Some w.sooner.result)
          (add_block c.args.blocks.now (TipMeets c.args.tip (coordinate c.args.from) (coordinate c.args.to)) (λ block a b m. m.fraction.positive)
          (IsListed c.args.listed.now 0 c.loop-number.number-index) i (read_at c.args.blocks.now i) stands
          _ refl w.in-Some.ensures.met c.loop-number.first c.loop-number.invariant w.sooner.result w.sooner.ensures))
      | in_default w ↦ rw w.first-is (fewer c.args.blocks.now (TipMeets c.args.tip (coordinate c.args.from) (coordinate c.args.to)) _ (IsListed c.args.listed.now 0 (c.loop-number.number-index + 1))
          (next_passed c.args.listed.now c.loop-number.number-index _ refl) c.loop-number.first
          (skip_block c.args.blocks.now (TipMeets c.args.tip (coordinate c.args.from) (coordinate c.args.to))
          (IsListed c.args.listed.now 0 c.loop-number.number-index) i (read_at c.args.blocks.now i) stands
          w.in_default.ensures.missed c.loop-number.first c.loop-number.invariant))
    ]

pub returns-in_err-first : goal.returns-in_err-first
returns-in_err-first c =
    rw c.from_residual.ensures (clear_of_all c.args.blocks.now (TipMeets c.args.tip (coordinate c.args.from) (coordinate c.args.to)) (IsListed c.args.listed.now 0 c.loop-number.number-index)
    (all_passed c.args.blocks.now _ c.args.listed.now _ c.loop-number-test.false c.requires.covered)
    (rw c.in_err-first.was at c.loop-number.invariant))

pub returns : goal.returns
returns c =
    hit_of_all c.args.blocks.now (TipMeets c.args.tip (coordinate c.args.from) (coordinate c.args.to)) (IsListed c.args.listed.now 0 c.loop-number.number-index) c.in_ok-first.field-0
    (all_passed c.args.blocks.now _ c.args.listed.now _ c.loop-number-test.false c.requires.covered)
    (rw c.in_ok-first.was at c.loop-number.invariant) c.hit.result c.hit.ensures.block c.hit.ensures.permille

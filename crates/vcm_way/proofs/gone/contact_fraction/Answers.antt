use Rattle.std.proofs.Common.{◌≡◌, Some, None, slice_get, refl}
use Rattle.std.specs.Prelude.{◌-◌}
use Rattle.std.proofs.lemmas.Option.{slice_get_read, slice_get_past}
use Rattle.vcm_num.specs.Point.{coordinate}
use Rattle.vcm_spec.specs.FirstContact.{fraction}
use Rattle.vcm_motion.proofs.Inside.{block_at}
use Rattle.vcm_way.proofs.Fractions.{same_entry, same_start, starts_same, with_block, without_block}
use Rattle.vcm_way.proofs.gone.contact_fraction.Goals as goal

pub returns-in-Some-tip_entry-clause-same : goal.returns-in-Some-tip_entry-clause-same
returns-in-Some-tip_entry-clause-same c =
    let part = c.args.part.now in
    let b = c.in-Some.block.now in
    let f = c.in-Some-tip_entry.at in
    let h = c.in-Some.ensures.lookup in
    let read = slice_get_read c.blocks-2.result.now _ c.saturating_sub.result b refl h.3.0 h.1 in
    let at : slice_get part.blocks (c.args.block - 1) ≡ Some b = (rw (c.blocks-2.ensures.blocks, c.saturating_sub.ensures) at read) in
    with_block part c.args.block c.args.from c.args.to (fraction f.num f.den) b at
    (same_entry part.bounds.tip (coordinate c.args.from) (coordinate c.args.to) b (block_at part.blocks (c.args.block - 1) b c.bounds-tip.ensures.valid.each at) f.num f.den
    (rw c.bounds-tip.ensures.bounds at c.in-Some-tip_entry.ensures.met))

pub returns-in-None-tip_entry-clause-same : goal.returns-in-None-tip_entry-clause-same
returns-in-None-tip_entry-clause-same c =
    let part = c.args.part.now in
    let b = c.in-Some.block.now in
    let f = c.start.result in
    let h = c.in-Some.ensures.lookup in
    let read = slice_get_read c.blocks-2.result.now _ c.saturating_sub.result b refl h.3.0 h.1 in
    let at : slice_get part.blocks (c.args.block - 1) ≡ Some b = (rw (c.blocks-2.ensures.blocks, c.saturating_sub.ensures) at read) in
    with_block part c.args.block c.args.from c.args.to (fraction f.num f.den) b at
    (same_start part.bounds.tip (coordinate c.args.from) (coordinate c.args.to) b (block_at part.blocks (c.args.block - 1) b c.bounds-tip.ensures.valid.each at) f.num f.den c.start.ensures f.positive
    (rw c.bounds-tip.ensures.bounds at c.in-None-tip_entry.ensures.missed))

pub returns-in-None-clause-same : goal.returns-in-None-clause-same
returns-in-None-clause-same c =
    let part = c.args.part.now in
    let f = c.start-in-None.result in
    let h = c.in-None.ensures.lookup in
    let read = slice_get_past c.blocks-2.result.now c.saturating_sub.result h.3 in
    let at : slice_get part.blocks (c.args.block - 1) ≡ None = (rw (c.blocks-2.ensures.blocks, c.saturating_sub.ensures) at read) in
    without_block part c.args.block c.args.from c.args.to (fraction f.num f.den) at (starts_same f.num f.den c.start-in-None.ensures f.positive)

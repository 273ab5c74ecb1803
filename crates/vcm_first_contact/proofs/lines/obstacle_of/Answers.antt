use Rattle.std.proofs.Common.{◌≡◌, ◌-◌, Option, Some, None, slice_get, refl, sym, ap, ◌∙◌}
use Rattle.std.specs.Prelude.{option_map}
use Rattle.std.proofs.lemmas.Option.{slice_get_read, slice_get_past}
use Rattle.vcm_spec.specs.declared.workpiece.Block3.{Block3}
use Rattle.vcm_motion.proofs.Inside.{block_at}
use Rattle.vcm_first_contact.specs.Lines.{obstacle_with}
use Rattle.vcm_first_contact.proofs.lines.obstacle_of.Goals as goal

pub obstacle_with-requires-clause-block : goal.obstacle_with-requires-clause-block
obstacle_with-requires-clause-block c =
    let blocks = c.args.part.now.blocks in
    let b = c.in-Some.block.now in
    let k = c.in-Some.ensures.lookup in
    let n = c.saturating_sub.result in
    let read = slice_get_read c.blocks-2.result.now _ n b refl k.3.0 k.1 in
    let at : slice_get blocks n ≡ Some b = (rw c.blocks-2.ensures.blocks at read) in
    block_at blocks n b c.blocks-2.ensures.valid.each at

pub returns-in-Some : goal.returns-in-Some
returns-in-Some c =
    let part = c.args.part.now in
    let first = c.args.first.now in
    let b = c.in-Some.block.now in
    let k = c.in-Some.ensures.lookup in
    let read = slice_get_read c.blocks-2.result.now _ c.saturating_sub.result b refl k.3.0 k.1 in
    let at : slice_get part.blocks (first.told.contact.hit.block - 1) ≡ Some b = (rw (c.blocks-2.ensures.blocks, c.saturating_sub.ensures) at read) in
    ap Some c.obstacle_with.ensures ∙ sym (ap (λ (o : Option Block3). option_map (obstacle_with part c.args.carried.now first) o) at)

pub returns-in-None : goal.returns-in-None
returns-in-None c =
    let part = c.args.part.now in
    let first = c.args.first.now in
    let past = slice_get_past c.blocks-2.result.now c.saturating_sub.result c.in-None.ensures.lookup.3 in
    let at : slice_get part.blocks (first.told.contact.hit.block - 1) ≡ None = (rw (c.blocks-2.ensures.blocks, c.saturating_sub.ensures) at past) in
    sym (ap (λ (o : Option Block3). option_map (obstacle_with part c.args.carried.now first) o) at)

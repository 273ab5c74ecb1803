use Rattle.std.proofs.Common.{◌≡◌, ◌-◌, Option, Some, None, slice_get, refl, sym, ap, ◌∙◌}
use Rattle.std.specs.Prelude.{option_and_then}
use Rattle.std.proofs.lemmas.Option.{slice_get_read, slice_get_past}
use Rattle.vcm_spec.specs.declared.workpiece.Block3.{Block3}
use Rattle.vcm_why.specs.Approaches.{free_of}
use Rattle.vcm_why.proofs.approaches.free_with.Goals as goal

pub returns-in-Some : goal.returns-in-Some
returns-in-Some c =
    let part = c.args.part.now in
    let b = c.in-Some.block.now in
    let h = c.in-Some.ensures.lookup in
    let read = slice_get_read c.blocks-2.result.now _ c.saturating_sub.result b refl h.3.0 h.1 in
    let at : slice_get part.blocks (c.args.block - 1) ≡ Some b = (rw (c.blocks-2.ensures.blocks, c.saturating_sub.ensures) at read) in
    (rw c.bounds-tip.ensures.bounds at c.free_of.ensures) ∙ sym (ap (λ (o : Option Block3). option_and_then (λ block. free_of part.bounds.tip block c.args.way) o) at)

pub returns-in-None : goal.returns-in-None
returns-in-None c =
    let part = c.args.part.now in
    let h = c.in-None.ensures.lookup in
    let read = slice_get_past c.blocks-2.result.now c.saturating_sub.result h.3 in
    let at : slice_get part.blocks (c.args.block - 1) ≡ None = (rw (c.blocks-2.ensures.blocks, c.saturating_sub.ensures) at read) in
    sym (ap (λ (o : Option Block3). option_and_then (λ block. free_of part.bounds.tip block c.args.way) o) at)

use Rattle.std.proofs.Common.{◌≡◌, Some, ◌∷◌, ◌+◌, drop, slice_get, sym, ap, ◌∙◌}
use Rattle.std.proofs.lemmas.List.{drop_more, drop_all}
use Rattle.std.proofs.lemmas.Option.{slice_get-get_or}
use Rattle.vcm_clearance.proofs.Sizes.{box_at}
use Rattle.vcm_first_contact.proofs.Firsts.{one_more, all_tried}
use Rattle.vcm_first_contact.proofs.first.first_on.Goals as goal

pub met_by-requires : goal.met_by-requires
met_by-requires c =
    let boxes = c.args.boxes.now in
    let b = c.index-boxes-index.result in
    let n = c.loop-index.index in
    let at : slice_get boxes n ≡ Some b = slice_get-get_or boxes n _ c.loop-index-test.true ∙ ap Some (sym c.index-boxes-index.is) in
    box_at boxes c.requires n b at

pub loop-index-preserved : goal.loop-index-preserved
loop-index-preserved c w same =
    let boxes = c.args.boxes.now in
    let b = c.index-boxes-index.result in
    let n = c.loop-index.index in
    let more : drop n boxes ≡ b ∷ drop (n + 1) boxes = drop_more boxes n _ c.loop-index-test.true ∙ ap (λ x. x ∷ drop (n + 1) boxes) (sym c.index-boxes-index.is) in
    one_more c.args.blocks.now.blocks w boxes n b more c.loop-index.first c.met_by.result c.sooner-first.result (c.loop-index.invariant w same) (c.met_by.ensures w same) (c.sooner-first.ensures w)

pub returns : goal.returns
returns c w same =
    let n = c.loop-index.index in
    all_tried c.args.blocks.now.blocks w c.args.boxes.now n c.loop-index.first (drop_all n c.args.boxes.now c.loop-index-test.false) (c.loop-index.invariant w same)

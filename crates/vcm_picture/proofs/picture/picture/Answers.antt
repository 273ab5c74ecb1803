use Rattle.std.proofs.Common.{map, Vec, ℕ, Global, ◌∙◌, ap, rules, w64, FitsSigned, to_z-of_z}
use Rattle.vcm_picture.specs.Heading.{first_line}
use Rattle.vcm_picture.proofs.Layouting.{picture_made}
use Rattle.vcm_picture.proofs.picture.picture.Goals as goal

pub returns : goal.returns
returns c =
    let fa : FitsSigned w64 c.above.result = search rules in
    let world = c.args.world.now in
    let l = simp to_z-of_z at c.layout_of-layout.ensures in
    picture_made _ _ _ c.args.part.now world c.args.done c.args.marks.now c.args.left_out c.args.is_close (map (λ (v : Vec ℕ Global). v.items) c.args.untried.now) _ _ _
    c.new-out.ensures.items c.in_ok-put_picture.ensures c.window_round-window.ensures l c.above.ensures.above
    (c.as_slice.ensures.value ∙ c.in_ok-first.ensures ∙ ap (λ t. first_line t c.stop.result c.args.done) c.tables.ensures
    ∙ ap (λ s. first_line world.tables s c.args.done) c.stop.ensures)

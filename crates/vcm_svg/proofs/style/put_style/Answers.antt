use Rattle.vcm_svg.specs.Style.{widths, width_text, edge_of, broad_if, general, blocks, ways, end_text}
use Rattle.vcm_svg.specs.declared.style.TheConstants.{MOVES}
use Rattle.vcm_svg.proofs.Appended.{five, text_same}
use Rattle.vcm_svg.proofs.style.put_style.Goals as goal

pub returns : goal.returns
returns c =
    let u = c.args.unit in
    five _ _ _ _ _ _ _ (widths u general) (widths (edge_of u c.args.blocks) blocks) (width_text u (MOVES.now, broad_if c.args.is_few)) (widths u ways)
    (end_text c.args.is_few) c.in_ok-put_widths.ensures
    (text_same _ _ (λ z. widths z blocks) _ _ c.edge_of.ensures c.in_ok-put_widths-2.ensures)
    (text_same _ _ (λ n. width_text u (MOVES.now, n)) _ _ c.broad_if.ensures c.in_ok-put_width.ensures)
    c.in_ok-put_widths-3.ensures c.put_end.ensures

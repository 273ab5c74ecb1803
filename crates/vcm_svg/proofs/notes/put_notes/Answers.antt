use Rattle.vcm_svg.specs.Notes.{notes_from, begins_if}
use Rattle.vcm_svg.specs.Style.{notes_style}
use Rattle.vcm_svg.proofs.Appended.{three}
use Rattle.vcm_svg.proofs.Noting.{held, some_noted}
use Rattle.vcm_svg.proofs.notes.put_notes.Goals as goal

pub returns : goal.returns
returns c =
    let u = c.args.unit in
    let few = c.few_notes.result.now in
    rw (← some_noted u c.args.down c.args.lines.now few c.args.legend c.args.begins c.is_empty.result c.few_notes.ensures.first c.is_empty.ensures
    c.if-is_empty.false)
    (three c.put_begins_if.result _ _ _ _ (notes_style u) (notes_from u c.args.down (held few)) (begins_if c.args.legend u c.args.begins)
    c.in_ok-put_notes_style.ensures c.in_ok-put_lines.ensures c.put_begins_if.ensures)

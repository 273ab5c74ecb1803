use Rattle.vcm_sheet.proofs.Tabled.{some_left}
use Rattle.vcm_sheet.proofs.heading.put_lines.Goals as goal

pub returns : goal.returns
returns c = rw (some_left c.args.lines.first c.if-lines-eq0.false) (rw (c.from.ensures, c.from-2.ensures) at c.put_line.ensures)

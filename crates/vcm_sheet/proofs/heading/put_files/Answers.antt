use Rattle.std.proofs.Common.{rules, w64, FitsSigned, to_z-of_z}
use Rattle.vcm_sheet.proofs.heading.put_files.Goals as goal

pub returns : goal.returns
returns c =
    let f : FitsSigned w64 c.diameter.result = search rules in
    let e = simp to_z-of_z at c.put_line.ensures in
    rw (c.deref.ensures.value, c.in_ok-program.ensures, c.deref-2.ensures.value, c.in_ok-part.ensures, c.diameter.ensures, c.bounds-tip.ensures.bounds) at e

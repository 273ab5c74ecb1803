use Rattle.std.proofs.Common.{length, ap, arith}
use Rattle.vcm_fields.specs.Readers.{entry_at}
use Rattle.vcm_image.specs.Opened.{Opened}
use Rattle.vcm_image.proofs.Tables.{Begin-length}
use Rattle.vcm_image.proofs.opening.Opening.variable_count.Goals as goal

pub returns : goal.returns
returns c =
    let l = Begin-length entry_at _ _ _ c.self.invariant.variables_begin in
    let v = ap (λ (o : Opened). length o.code.tables.variables) c.self.view_is in
    omega (arith, c.len.ensures, l, v)

use Rattle.std.proofs.Common.{length, ◌+◌, ap, arith}
use Rattle.vcm_fields.specs.Readers.{line_at}
use Rattle.vcm_image.specs.Opened.{Opened}
use Rattle.vcm_image.proofs.Tables.{Begin-length}
use Rattle.vcm_image.proofs.opening.Opening.statement_count.Goals as goal

pub returns : goal.returns
returns c =
    let l = Begin-length (line_at c.self.inside.version) _ _ _ c.self.invariant.statements_begin in
    let v = ap (λ (o : Opened). length o.code.statements + o.left) c.self.view_is in
    omega (arith, c.self.invariant.left_is, l, v)

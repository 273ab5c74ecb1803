use Rattle.std.proofs.Common.{length, ap, arith}
use Rattle.vcm_code.specs.declared.code.Code.{Code}
use Rattle.vcm_fields.specs.Readers.{line_at}
use Rattle.vcm_image.proofs.Tables.{Begin-length}
use Rattle.vcm_image.proofs.scanned.Scanned.statement_count.Goals as goal

pub returns : goal.returns
returns c =
    let l = Begin-length (line_at c.self.inside.version) _ _ _ c.self.invariant.statements_begin in
    let v = ap (λ (d : Code). length d.statements) c.self.view_is in
    omega (arith, c.len.ensures, l, v)

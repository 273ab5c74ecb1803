use Rattle.std.proofs.Common.{Some, sym, ap, ◌∙◌}
use Rattle.vcm_code.specs.declared.code.Code.{Code}
use Rattle.vcm_fields.specs.Readers.{line_at}
use Rattle.vcm_fields.proofs.Inverse.{ok_is}
use Rattle.vcm_image.proofs.scanned.Scanned.statement.Goals as goal

pub unreachable-requires : goal.unreachable-requires
unreachable-requires c =
    let same = c.self.invariant.version_is ∙ ap (λ (d : Code). d.version) c.self.view_is in
    let both = sym c.bytes_from.ensures.2 ∙ ap (λ v. line_at v c.bytes_from.result.now) (sym same) ∙ c.in-Err.ensures in
    cc

pub returns : goal.returns
returns c =
    let same = c.self.invariant.version_is ∙ ap (λ (d : Code). d.version) c.self.view_is in
    let both = ok_is _ _ (sym c.bytes_from.ensures.2 ∙ ap (λ v. line_at v c.bytes_from.result.now) (sym same) ∙ c.in-Ok.ensures) in
    c.bytes_from.ensures.3 ∙ ap (λ p. Some p.0) both

use Rattle.std.proofs.Common.{◌<◌, ◌≡◌, length, slice_get, Some, Ok, sym, ap, subst, ◌∙◌, arith}
use Rattle.vcm_code.specs.declared.code.Code.{Code}
use Rattle.vcm_fields.specs.Readers.{line_at}
use Rattle.vcm_image.proofs.Tables.{Begin-length, Begin-index}
use Rattle.vcm_image.proofs.scanned.Scanned.bytes_from.Goals as goal

pub index-start-requires : goal.index-start-requires
index-start-requires c = omega (
  arith,
  Begin-length (line_at c.self.inside.version) _ _ _ c.self.invariant.statements_begin,
  (subst (λ (d : Code). c.args.n < length d.statements) (sym c.self.view_is) c.requires),
)

pub after-requires : goal.after-requires
after-requires c = (Begin-index (line_at c.self.inside.version) _ _ _ _ _ _ c.self.invariant.statements_begin
    (subst (λ (d : Code). c.args.n < length d.statements) (sym c.self.view_is) c.requires) c.index-start.ensures).within

pub returns : goal.returns
returns c =
    let f = Begin-index (line_at c.self.inside.version) _ _ _ _ _ _ c.self.invariant.statements_begin
    (subst (λ (d : Code). c.args.n < length d.statements) (sym c.self.view_is) c.requires) c.index-start.ensures in
    let same = c.self.invariant.version_is ∙ ap (λ (d : Code). d.version) c.self.view_is in
    let read = ap (line_at c.self.inside.version) c.after.ensures ∙ f.read in
    (f.value, f.rest, subst (λ v. line_at v c.after.result.now ≡ Ok (f.value, f.rest)) same read, subst (λ (d : Code). slice_get d.statements c.args.n ≡ Some f.value) c.self.view_is f.is)

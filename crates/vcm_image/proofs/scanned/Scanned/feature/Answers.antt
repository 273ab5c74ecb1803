use Rattle.vcm_items.specs.NameBytes.{IsName}
use Rattle.std.proofs.Common.{◌<◌, ◌≡◌, length, slice_get, Some, sym, subst, arith}
use Rattle.vcm_code.specs.declared.code.Code.{Code}
use Rattle.vcm_fields.specs.Readers.{name_at}
use Rattle.vcm_image.proofs.Tables.{Begin-length, Begin-index, Found-ok, Found-err, all_at}
use Rattle.vcm_image.proofs.scanned.Scanned.feature.Goals as goal

pub index-start-requires : goal.index-start-requires
index-start-requires c = omega (arith, Begin-length name_at _ _ _ c.self.invariant.features_begin, (subst (λ (d : Code). c.args.n < length d.tables.features) (sym c.self.view_is) c.requires))

pub after-requires : goal.after-requires
after-requires c = (Begin-index name_at _ _ _ _ _ _ c.self.invariant.features_begin
    (subst (λ (d : Code). c.args.n < length d.tables.features) (sym c.self.view_is) c.requires) c.index-start.ensures).within

pub unreachable-requires : goal.unreachable-requires
unreachable-requires c = Found-err name_at _ _ _ _ _ _
    (Begin-index name_at _ _ _ _ _ _ c.self.invariant.features_begin (subst (λ (d : Code). c.args.n < length d.tables.features) (sym c.self.view_is) c.requires)
    c.index-start.ensures) c.after.ensures c.in-Err.ensures

pub returns-clause-is : goal.returns-clause-is
returns-clause-is c = subst (λ (d : Code). slice_get d.tables.features c.args.n ≡ Some c.in-Ok.name) c.self.view_is
    (Found-ok name_at _ _ _ _ _ _ _ (Begin-index name_at _ _ _ _ _ _ c.self.invariant.features_begin
    (subst (λ (d : Code). c.args.n < length d.tables.features) (sym c.self.view_is) c.requires) c.index-start.ensures) c.after.ensures c.in-Ok.ensures)

pub returns-clause-name : goal.returns-clause-name
returns-clause-name c = (all_at IsName _ _ _ c.self.invariant.fits.range.features.1
    (Found-ok name_at _ _ _ _ _ _ _ (Begin-index name_at _ _ _ _ _ _ c.self.invariant.features_begin
    (subst (λ (d : Code). c.args.n < length d.tables.features) (sym c.self.view_is) c.requires) c.index-start.ensures) c.after.ensures c.in-Ok.ensures))

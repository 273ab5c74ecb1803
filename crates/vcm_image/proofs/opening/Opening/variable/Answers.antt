use Rattle.std.proofs.Common.{◌≡◌, ◌<◌, ℕ, List, length, slice_get, Some, sym, ap, ◌∙◌, subst, arith}
use Rattle.vcm_spec.specs.Setup.{Variable as Entry}
use Rattle.vcm_fields.specs.Readers.{entry_at}
use Rattle.vcm_fields.proofs.Taking.{never_fails, gives_it}
use Rattle.vcm_image.specs.Opened.{Opened}
use Rattle.vcm_image.proofs.Tables.{Begin-length, Begin-index}
use Rattle.vcm_image.proofs.opening.Opening.variable.Goals as goal

pub index-requires : goal.index-requires
index-requires c = omega (arith, Begin-length entry_at _ _ _ c.self.invariant.variables_begin, (subst (λ (o : Opened). c.args.n < length o.code.tables.variables) (sym c.self.view_is) c.requires))

pub after-requires : goal.after-requires
after-requires c = (Begin-index entry_at _ _ _ _ _ _ c.self.invariant.variables_begin
    (subst (λ (o : Opened). c.args.n < length o.code.tables.variables) (sym c.self.view_is) c.requires) c.index.ensures).within

pub known-variable-requires : goal.known-variable-requires
known-variable-requires c =
    let f = Begin-index entry_at _ _ _ _ _ _ c.self.invariant.variables_begin (subst (λ (o : Opened). c.args.n < length o.code.tables.variables) (sym c.self.view_is) c.requires) c.index.ensures in
    never_fails _ _ _ _ c.variable.ensures (ap entry_at c.after.ensures ∙ f.read)

pub returns : goal.returns
returns c =
    let f = Begin-index entry_at _ _ _ _ _ _ c.self.invariant.variables_begin (subst (λ (o : Opened). c.args.n < length o.code.tables.variables) (sym c.self.view_is) c.requires) c.index.ensures in
    let same = gives_it _ _ _ _ _ c.variable.ensures (ap entry_at c.after.ensures ∙ f.read) c.known-variable.ensures in
    subst (λ (o : Opened). slice_get o.code.tables.variables c.args.n ≡ Some c.known-variable.result.0) c.self.view_is (f.is ∙ ap (λ (p : Entry × List ℕ). Some p.0) (sym same))

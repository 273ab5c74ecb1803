use Rattle.std.proofs.Common.{sym, ◌∙◌, ap, length}
use Rattle.vcm_spec.specs.Fitting.{kinds}
use Rattle.vcm_code.specs.declared.code.Code.{Code}
use Rattle.vcm_loader.proofs.Validity.{valid_typed, kinds_length}
use Rattle.vcm_loader.proofs.loaded.Loaded.value.Goals as goal

pub items_value-requires : goal.items_value-requires
items_value-requires c =
    let t = valid_typed c.self.inside.scanned c.args.n c.args.place c.statement-statement.result c.in-Some.items c.self.invariant.1
    c.statement-statement.ensures (sym c.expression.ensures ∙ c.in-Some.is) in
    (kinds c.self.inside.scanned.tables, t.0, t.1, kinds_length c.self.inside.scanned ∙ ap (λ (d : Code). length d.tables.variables) c.self.view_is ∙ sym c.requires.slots)

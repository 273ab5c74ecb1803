use Rattle.std.proofs.Common.{ap, slice_get, ◌∙◌}
use Rattle.vcm_fields.proofs.FieldPlaces.{over_fields}
use Rattle.vcm_loader.specs.Expressions.{place_expressions}
use Rattle.vcm_loader.proofs.places.expression.Goals as goal

pub returns : goal.returns
returns c = c.in_fields.ensures ∙ ap (λ es. slice_get es c.args.place) (over_fields place_expressions c.fields_of.result _ c.fields_of.ensures)

use Rattle.std.proofs.Common.{◌≡◌, drop, slice_get}
use Rattle.std.specs.Prelude.{flat_map}
use Rattle.vcm_fields.specs.Fields.{in_plain}
use Rattle.vcm_loader.specs.Expressions.{place_expressions}
use Rattle.vcm_loader.proofs.places.in_fields.Given as goal

abbrev pub invariant-loop-field : goal.invariant-loop-field
invariant-loop-field l = slice_get (flat_map (in_plain place_expressions) (drop l.field-index l.fields)) l.left ≡ slice_get (flat_map (in_plain place_expressions) l.fields) l.place

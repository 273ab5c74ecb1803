use Rattle.std.proofs.Common.{rules}
use Rattle.vcm_fields.proofs.field.fields_of.Goals as goal

pub returns-in-Do : goal.returns-in-Do
returns-in-Do g c = search rules

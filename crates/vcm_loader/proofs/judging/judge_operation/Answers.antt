use Rattle.std.proofs.Common.{[]}
use Rattle.vcm_fields.proofs.FieldPlaces.{over_fields_in}
use Rattle.vcm_code.specs.Checks.{place_checks}
use Rattle.vcm_loader.proofs.judging.judge_operation.Goals as goal

pub returns-clause-ok : goal.returns-clause-ok
returns-clause-ok g c = rw (over_fields_in g.E.Typed.items (λ t. []) g.B.Aimed.branches
    (place_checks (record { kinds = c.args.kinds.now; features = c.args.features; frames = c.args.frames; statements = c.args.statements })) _ _
    c.fields_of.ensures) at c.judge_fields.ensures.ok

pub returns-clause-err : goal.returns-clause-err
returns-clause-err g c = rw (over_fields_in g.E.Typed.items (λ t. []) g.B.Aimed.branches
    (place_checks (record { kinds = c.args.kinds.now; features = c.args.features; frames = c.args.frames; statements = c.args.statements })) _ _
    c.fields_of.ensures) at c.judge_fields.ensures.err

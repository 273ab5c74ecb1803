use Rattle.std.proofs.Common.{[]}
use Rattle.vcm_fields.specs.Fields.{in_field}
use Rattle.vcm_code.specs.Checks.{place_checks}
use Rattle.vcm_loader.proofs.Lines.{HeldUpTo}
use Rattle.vcm_loader.proofs.judging.judge_fields.Given as goal

abbrev pub invariant-loop-field : goal.invariant-loop-field
invariant-loop-field g l = HeldUpTo (in_field g.E.Typed.items (λ t. []) g.B.Aimed.branches
    (place_checks (record { kinds = l.kinds; features = l.features; frames = l.frames; statements = l.statements }))) l.fields l.field-index

use Rattle.std.proofs.Common.{◌≡◌, sym, ap, ◌∙◌}
use Rattle.vcm_macro.specs.Rules.{kept}
use Rattle.vcm_macro.specs.Walk.{walk}
use Rattle.vcm_calls.specs.Carried.{carried_out}
use Rattle.vcm_calls.specs.Chains.{expansions}
use Rattle.vcm_backtrace.proofs.Reading.{one_text}
use Rattle.vcm_backtrace.proofs.source.source_of.Goals as goal

pub invariant_of-result : goal.invariant_of-result
invariant_of-result c =
    let one : c.in_ok-read_all.field-0.items ≡ c.in_ok-statements.statements.items =
    one_text _ c.in_ok-read_all.field-0.items c.in_ok-statements.statements.items c.in_ok-read_all.ensures c.in_ok-statements.ensures in
    (c.in_ok-calls.ensures.calls ∙ ap carried_out one, c.in_ok-calls.ensures.expansions ∙ ap (λ ss. expansions (kept (walk ss))) one)

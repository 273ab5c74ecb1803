use Rattle.std.proofs.Common.{inr, refl, sym, ◌∙◌}
use Rattle.std.proofs.lemmas.Result.{err_from_is_err_and}
use Rattle.std.specs.Prelude.{map}
use Rattle.vcm_substitution.specs.Substitution.{put_argument}
use Rattle.vcm_macro.specs.Rules.{argument_codes, each_argument_codes}
use Rattle.vcm_macro.specs.inner.Expanding.{TellsLeftmost}
use Rattle.vcm_macro.proofs.Arguments.{fine_all, bad_all, next_wrong}
use Rattle.vcm_macro.proofs.Calling.{or_memory}
use Rattle.vcm_macro.proofs.expanding.put_all.Goals as goal

pub returns-then-all_suit-clause-fine : goal.returns-then-all_suit-clause-fine
returns-then-all_suit-clause-fine c =
    let s = c.if-all_stay.ensures in
    rw s.same (fine_all c.args.wanted.now c.args.written.now (sym c.all_suit.ensures ∙ c.if-all_suit.true) (s.small refl))

pub returns-else-all_suit-clause-fault : goal.returns-else-all_suit-clause-fault
returns-else-all_suit-clause-fault c =
    let s = c.if-all_stay.ensures in
    rw (c.refused.ensures, s.same) (inr (bad_all c.args.wanted.now c.args.written.now c.requires (sym c.all_suit.ensures ∙ c.if-all_suit.false) (s.small refl), refl))

pub returns-in_err-argument-clause-fault : goal.returns-in_err-argument-clause-fault
returns-in_err-argument-clause-fault c =
    let p = err_from_is_err_and c.from_residual-in_err-argument.result c.from_residual-in_err-argument.ensures.1 in
    let put = put_argument c.args.bindings.now c.argument-item.result in
    rw (p.1, p.2) (or_memory (TellsLeftmost c.args.line (argument_codes c.wanted_at-wanted.result put))
    (TellsLeftmost c.args.line (each_argument_codes c.args.wanted.now (map (put_argument c.args.bindings.now) c.args.written.now))) c.in_err-argument.field-0.0
    (λ t. next_wrong c.args.wanted.now c.args.bindings.now c.args.written.now c.loop-argument.argument-index c.len.result c.args.line c.loop-argument.arguments.items c.wanted_at-wanted.result
    c.argument-item.result c.in_err-argument.field-0.0 c.loop-argument.invariant c.requires c.loop-argument-test.true
    (c.len.ensures ∙ c.loop-argument.arguments.ok.0) c.wanted_at-wanted.ensures c.argument-item.is t) c.in_err-argument.ensures.fault)

use Rattle.std.proofs.Common.{rules, ◌≡◌, true, sym, ◌∙◌}
use Rattle.vcm_macro.proofs.Stays.{argument_stays}
use Rattle.vcm_macro.proofs.staying.stays.Goals as goal

pub returns-in-Some-clause-same : goal.returns-in-Some-clause-same
returns-in-Some-clause-same c = λ all.
    let none : c.is_empty.result ≡ true = search rules in
    let here = sym c.are_here.ensures ∙ all in
    argument_stays c.args.bindings.now.parameters c.args.bindings.now.arguments c.args.bindings.now.expansion c.args.argument.now c.in-Some.value (c.is_empty.ensures.0 none) c.in-Some.is
    (rw (c.expansion.ensures, c.pieces.ensures.parts) at here)

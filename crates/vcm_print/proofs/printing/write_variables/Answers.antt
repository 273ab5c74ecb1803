use Rattle.std.proofs.Common.{arith, length, ◌<◌, ◌∙◌}
use Rattle.std.proofs.lemmas.Result.{err_from_is_err_and}
use Rattle.vcm_words.specs.declared.row.Row.TheVariants.{Variable}
use Rattle.vcm_print.proofs.Lines.{variable_is}
use Rattle.vcm_print.proofs.Walks.{line_took, line_front}
use Rattle.vcm_print.proofs.printing.write_variables.Goals as goal

pub returns-in_err-write_variable : goal.returns-in_err-write_variable
returns-in_err-write_variable g c =
    let p = err_from_is_err_and c.from_residual.result c.from_residual.ensures.1 in
    let below : c.loop-n.n < length c.args.loaded.now.tables.variables = omega (arith, c.variable_count-n-end.ensures, c.loop-n-test.true) in
    rw p.1 (line_front Variable c.loop-n.n c.args.loaded.now.tables.variables c.variable-variable.result _ _ _ _ _ below c.variable-variable.ensures
    (variable_is c.loop-n.n c.variable-variable.result) c.loop-n.invariant
    (rw (c.kind.ensures, c.as_bytes.ensures ∙ c.name-name.ensures, c.expansion.ensures) at c.in_err-write_variable.ensures))

pub loop-n-preserved : goal.loop-n-preserved
loop-n-preserved g c =
    let below : c.loop-n.n < length c.args.loaded.now.tables.variables = omega (arith, c.variable_count-n-end.ensures, c.loop-n-test.true) in
    line_took Variable c.loop-n.n c.args.loaded.now.tables.variables c.variable-variable.result _ _ _ _ _ below c.variable-variable.ensures
    (variable_is c.loop-n.n c.variable-variable.result) c.loop-n.invariant
    (rw (c.kind.ensures, c.as_bytes.ensures ∙ c.name-name.ensures, c.expansion.ensures) at c.in_ok-write_variable.ensures)

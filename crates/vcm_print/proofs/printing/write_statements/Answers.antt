use Rattle.std.proofs.Common.{arith, length, ◌<◌, refl, rules}
use Rattle.std.proofs.lemmas.Result.{err_from_is_err_and}
use Rattle.vcm_words.specs.declared.row.Row.TheVariants.{Numbered}
use Rattle.vcm_print.proofs.Walks.{lines_at, line_took, line_front}
use Rattle.vcm_print.proofs.printing.write_statements.Goals as goal

pub returns-in_err-write_statement : goal.returns-in_err-write_statement
returns-in_err-write_statement g c =
    let p = err_from_is_err_and c.from_residual.result c.from_residual.ensures.1 in
    let below : c.loop-n.n < length c.args.loaded.now.statements = omega (arith, c.statement_count-n-end.ensures.count, c.loop-n-test.true) in
    let r = lines_at Numbered c.loop-n.n c.loop-n.n c.args.loaded.now.statements below in
    rw p.1 (line_front Numbered c.loop-n.n c.args.loaded.now.statements r.0 _ _ _ _ _ below r.1 refl c.loop-n.invariant (c.in_err-write_statement.ensures r.0 r.1))

pub loop-n-preserved : goal.loop-n-preserved
loop-n-preserved g c =
    let below : c.loop-n.n < length c.args.loaded.now.statements = omega (arith, c.statement_count-n-end.ensures.count, c.loop-n-test.true) in
    let r = lines_at Numbered c.loop-n.n c.loop-n.n c.args.loaded.now.statements below in
    line_took Numbered c.loop-n.n c.args.loaded.now.statements r.0 _ _ _ _ _ below r.1 refl c.loop-n.invariant (c.in_ok-write_statement.ensures r.0 r.1)

pub loop-n-init : goal.loop-n-init
loop-n-init g c = search rules

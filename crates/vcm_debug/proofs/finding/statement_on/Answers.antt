use Rattle.std.proofs.Common.{◌<◌, length, sym, ap, ◌∙◌, arith}
use Rattle.vcm_debug.specs.Session.{line_in}
use Rattle.vcm_debug.proofs.Lines.{found_line, passed_line}
use Rattle.vcm_debug.proofs.finding.statement_on.Goals as goal

pub returns-then-from-line : goal.returns-then-from-line
returns-then-from-line c =
    let xs = c.args.loaded.now.statements in
    let l : c.loop-n.n < length xs = omega (arith, c.loop-n-test.true, c.statement_count-count.ensures.count) in
    sym (c.loop-n.invariant ∙ found_line xs c.args.line c.loop-n.n c.loop-n.n l ((ap line_in c.line.ensures.1 ∙ sym c.line.ensures.2) ∙ sym c.from.ensures ∙ c.if-from-line.true))

pub loop-n-preserved : goal.loop-n-preserved
loop-n-preserved c =
    let xs = c.args.loaded.now.statements in
    let l : c.loop-n.n < length xs = omega (arith, c.loop-n-test.true, c.statement_count-count.ensures.count) in
    c.loop-n.invariant ∙ passed_line xs c.args.line c.loop-n.n c.loop-n.n l (λ e. c.if-from-line.false (c.from.ensures ∙ sym ((ap line_in c.line.ensures.1 ∙ sym c.line.ensures.2)) ∙ e))

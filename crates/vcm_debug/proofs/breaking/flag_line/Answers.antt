use Rattle.std.proofs.Common.{◌≡◌, ◌<◌, length, sym, ap, ◌∙◌, arith}
use Rattle.vcm_debug.specs.Session.{line_in}
use Rattle.vcm_debug.proofs.Flags.{flag_on, keep_on}
use Rattle.vcm_debug.proofs.breaking.flag_line.Goals as goal
use Rattle.vcm_debug.proofs.breaking.flag_line.Goals.{then-from-line, else-from-line}

pub loop-n-preserved : goal.loop-n-preserved
loop-n-preserved c =
    let ss = c.args.loaded.now.statements in
    let l : c.loop-n.n < length ss = omega (arith, c.loop-n-test.true, c.statement_count-count.ensures.count) in
    let line_is = ap line_in c.line.ensures.1 ∙ sym c.line.ensures.2 ∙ sym c.from.ensures in
    elim c.if-from-line.branch [
      | then-from-line w ↦ flag_on c.args.line c.args.is_set c.loop-n.n ss c.args.breakpoints.now c.loop-n.breakpoints _ l c.requires c.loop-n.invariant
          (line_is ∙ w.if-from-line.true) w.breakpoints-is
      | else-from-line w ↦ keep_on c.args.line c.args.is_set c.loop-n.n ss c.args.breakpoints.now c.loop-n.breakpoints _ l c.requires c.loop-n.invariant
          (λ e. w.if-from-line.false (sym line_is ∙ e)) w.breakpoints-is
    ]

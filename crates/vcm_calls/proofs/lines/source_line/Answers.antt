use Rattle.std.proofs.Common.{◌≡◌, ◌-◌, refl, ap, ◌∙◌, subst, arith}
use Rattle.std.proofs.lemmas.Str.Ascii.{trim_ascii_is}
use Rattle.vcm_num.specs.Lines.{first_line}
use Rattle.vcm_calls.specs.Lines.{behind_lines, from_first, to_last}
use Rattle.vcm_calls.proofs.lines.source_line.Goals as goal

pub returns : goal.returns
returns c =
    let none : c.loop-left.left - 1 ≡ 0 = omega (arith, c.loop-left-test.false) in
    let there = subst (λ k. behind_lines c.loop-left.rest.now k ≡ behind_lines c.args.text.now (c.args.number - 1)) none c.loop-left.invariant in
    trim_ascii_is c.cut_line-2.result.0.now c.trim_ascii.result.now (from_first c.cut_line-2.result.0.now) refl c.trim_ascii.ensures.value
    ∙ ap (λ line. to_last (from_first line)) (c.cut_line-2.ensures.line ∙ ap first_line there)

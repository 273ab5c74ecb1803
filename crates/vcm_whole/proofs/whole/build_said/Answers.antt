use Rattle.std.proofs.Common.{◌≡◌, sym, ◌∙◌, ap, subst}
use Rattle.std.proofs.lemmas.Result.{IfOk-weaker}
use Rattle.vcm_given.specs.Unused.{unused}
use Rattle.vcm_whole.specs.Whole.{ReadsPlain, is_rewritten}
use Rattle.vcm_whole.proofs.whole.build_said.Goals as goal

pub returns-clause-built : goal.returns-clause-built
returns-clause-built c =
    let text = c.args.text.now in
    let lines = c.args.lines.now in
    let e = c.in-Ok-reading_of.ensures in
    let said = c.deref.ensures.value ∙ c.in-Ok.ensures in
    IfOk-weaker c.build_statements.result _ _
    (λ w h. λ read rewritten. h (subst (λ u. ReadsPlain text u lines) (sym e.0) read) (e.1 ∙ rewritten ∙ ap (is_rewritten text) (sym e.0))
    (e.2 ∙ ap (unused c.args.choices.now lines) said) e.3 e.4 e.5)
    c.build_statements.ensures.built

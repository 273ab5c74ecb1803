use Rattle.std.proofs.Common.{◌∙◌, sym, ap, min}
use Rattle.std.proofs.lemmas.List.{length-map}
use Rattle.vcm_sheet.specs.Content.{filing}
use Rattle.vcm_sheet.proofs.Lined.{lines_counted}
use Rattle.vcm_sheet.proofs.heading.heading_lines.Goals as goal

pub returns-clause-value : goal.returns-clause-value
returns-clause-value c = λ stopped.
    lines_counted (filing c.args.sheet.now) stopped c.args.is_drawn c.args.contact _ _ _ _ _ c.one_if.ensures.value c.one_if-2.ensures.value
    (rw c.is_some.ensures at c.one_if-3.ensures.value) c.one_if-4.ensures.value
    (c.notes_of.ensures.value ∙ ap (min 40) (sym (length-map c.args.sheet.now.untried.now (λ n. n.items))))

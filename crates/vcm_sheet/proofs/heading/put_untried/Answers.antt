use Rattle.std.proofs.Common.{◌≡◌, ◌∙◌, sym, ap, subst, Vec, ℕ, Global}
use Rattle.std.proofs.lemmas.List.Folds.{flat_map-map}
use Rattle.std.specs.Prelude.{flat_map, IfOk}
use Rattle.vcm_svg.proofs.Noting.{held, few_held}
use Rattle.vcm_sheet.specs.Heading.{note_line, untried_lines}
use Rattle.vcm_sheet.specs.Sayings.{Adds}
use Rattle.vcm_sheet.proofs.heading.put_untried.Goals as goal

pub returns : goal.returns
returns c =
    let lines = c.args.lines.now in
    let few = c.few_notes.result.now in
    let e : flat_map (λ (line : Vec ℕ Global). note_line line.items) few ≡ untried_lines (held lines) =
    sym (flat_map-map note_line (λ (line : Vec ℕ Global). line.items) few) ∙ ap (flat_map note_line) (few_held few lines c.few_notes.ensures.first) in
    subst (λ said. IfOk c.put_notes.result (λ next. Adds said c.args.out.now.items c.put_notes.new.out.items)) e c.put_notes.ensures

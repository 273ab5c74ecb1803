use Rattle.std.proofs.Common.{◌∙◌, ap, ◌++◌, ℕ, List}
use Rattle.std.specs.Prelude.{flat_map}
use Rattle.vcm_rows.specs.Opening.{opening_rows}
use Rattle.vcm_turning.specs.Steps.{turned_marks}
use Rattle.vcm_set_views.specs.Fit.{steps_of}
use Rattle.vcm_set_views.specs.Rows.{last_row}
use Rattle.vcm_set_views.specs.Story.{not_shown, turned_rows, first_rows}
use Rattle.vcm_set_views.proofs.Chaining.{chain_texts}
use Rattle.vcm_set_views.proofs.Ended.{one_count}
use Rattle.vcm_set_views.proofs.story.set_story.Goals as goal

pub returns-in-Ok : goal.returns-in-Ok
returns-in-Ok c =
    let f = c.args.fitted.now in
    let e = c.in_ok-ending.ending.end in
    let ended = c.in_ok-ending.ensures.end.ended in
    let first = c.in_ok-steps_taken.ensures in
    let from = c.not_shown-from.result in
    let count = c.not_shown-from.ensures ∙ ap not_shown (first.2 ∙ one_count f c.args.steps first.0 e first.1 ended) in
    let front = opening_rows f.part f.code c.args.shown.text.now c.args.shown.is_listing c.args.shown.notices.now in
    let rows = λ (k : ℕ). flat_map (λ s. turned_rows k f.code.tables s (turned_marks f.part f.probes s)) (steps_of f e.done) in
    let last = last_row f e.done e.end in
    let told = chain_texts (λ v. v.items) (λ s marks. turned_rows from f.code.tables s marks) f.part f.probes c.write_before.new.text c.run_seen.new.to (steps_of f e.done)
    c.in_ok-ending.ensures.seen in (
      ended,
      c.in-Ok.ensures ∙ ap (λ (xs : List ℕ). xs ++ last) (told ∙ ap (λ (xs : List ℕ). xs ++ rows from) (c.in_ok-write_before.ensures
          ∙ ap (λ (xs : List ℕ). xs ++ (front ++ first_rows f from)) c.new-text.ensures.items))
          ∙ ap (λ (k : ℕ). ((front ++ first_rows f k) ++ rows k) ++ last) count,
    )

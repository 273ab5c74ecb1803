use Rattle.std.proofs.Common.{ap, ◌∙◌, ◌++◌, append_assoc}
use Rattle.std.specs.Prelude.{ℕ, List, flat_map, map}
use Rattle.vcm_trace.specs.Framed.{Frames, framed}
use Rattle.vcm_turning.specs.Steps.{TurnedStep}
use Rattle.vcm_set_views.specs.Fit.{steps_of}
use Rattle.vcm_set_views.proofs.Chaining.{chain_rows, if_ok_then}
use Rattle.vcm_set_views.proofs.rows.add_rows.Goals as goal

pub returns-in-Ok-clause-text : goal.returns-in-Ok-clause-text
returns-in-Ok-clause-text g c =
    let rows = g.F.WritesRows.Rows c.args.by.now in
    let f = c.args.fitted.now in
    if_ok_then c.run_seen.result _ _ (λ e chain.
    let told = λ (fs : Frames). flat_map (rows.row f.code.tables) (framed fs (map (λ (s : TurnedStep). s.passage) (steps_of f e.end.done))) in
    chain_rows (λ r. r.text.items) (λ r. r.frames) (rows.row f.code.tables) f.part f.probes _ c.run_seen.new.to (steps_of f e.end.done) chain
    ∙ ap (λ (l : List ℕ). l ++ told c.args.rowed.now.frames) c.in-Ok.ensures
    ∙ append_assoc c.args.rowed.now.text.items rows.before (told c.args.rowed.now.frames)
    ∙ ap (λ (fs : Frames). c.args.rowed.now.text.items ++ (rows.before ++ told fs)) c.requires) c.run_seen.ensures.seen

use Rattle.std.proofs.Common.{[], refl, sym, ◌∙◌, subst}
use Rattle.std.specs.Prelude.{flat_map}
use Rattle.vcm_way.specs.Ways.{Kept, most_pieces}
use Rattle.vcm_way.specs.Keeping.{StandsFor}
use Rattle.vcm_way.proofs.Lists.{stands_for_none, kept_is}
use Rattle.vcm_turning.specs.Steps.{turned_marks}
use Rattle.vcm_set_views.specs.Drawn.{placed_turned}
use Rattle.vcm_set_views.specs.Fit.{steps_of}
use Rattle.vcm_set_views.proofs.Chaining.{chain_kept}
use Rattle.vcm_set_views.proofs.drawn.run_kept.Goals as goal

pub keep_last-requires : goal.keep_last-requires
unfolding most_pieces
keep_last-requires c = refl

pub returns-in-Ok-clause-way : goal.returns-in-Ok-clause-way
returns-in-Ok-clause-way c =
    let f = c.args.fitted.now in
    let steps = steps_of f c.in_ok-ending.ending.end.done in
    let start = subst (λ (k : Kept). StandsFor k []) (sym c.new-way.ensures) stands_for_none in
    let stands = chain_kept f.part f.probes c.new-way.result c.run_seen.new.to steps [] c.in_ok-ending.ensures.seen start in
    c.in-Ok.ensures ∙ kept_is c.run_seen.new.to (flat_map (λ s. placed_turned s (turned_marks f.part f.probes s)) steps) stands

use Rattle.std.proofs.Common.{sym, ap, ◌∙◌}
use Rattle.vcm_set_views.specs.Fit.{behind}
use Rattle.vcm_set_views.proofs.Ended.{one_count}
use Rattle.vcm_set_views.proofs.laws.runs_take_one_count.Goals as goal

pub returns : goal.returns
returns c = λ f n a b ha hb.
    let e = one_count f n a b ha hb in
    (e, ha.stop_is ∙ ap (λ k. (behind f k).state.world.stop) e ∙ sym hb.stop_is)

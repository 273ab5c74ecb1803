use Rattle.std.proofs.Common.{◌≡◌, ℕ, List, refl, sym, ap, ◌∙◌}
use Rattle.vcm_meant.specs.declared.remark.Remark.{Remark}
use Rattle.vcm_meant.specs.Turned.{IsMeantTurned, meant_behind}
use Rattle.vcm_set_views.specs.declared.ends.SetEnd.{SetEnd}
use Rattle.vcm_set_views.specs.Ends.{HasEnded}
use Rattle.vcm_set_views.specs.Fit.{Fit, behind}
use Rattle.vcm_set_views.proofs.Ended.{one_count}
use Rattle.vcm_set_views.proofs.laws.remarks_are_one.Goals as goal

module _ (f : Fit) (n : ℕ) (rs : List Remark) (h : IsMeantTurned n f.part f.probes f.variable f.code rs) where
  end_of : SetEnd
  end_of = record { done = h.done; end = h.end; stop = (behind f h.done).state.world.stop }

  has_ended : HasEnded f n end_of
  unfolding end_of
  has_ended = record { ended = h.ended; ample = h.ample; few = h.few; each = h.each; stop_is = refl }

pub returns : goal.returns
unfolding end_of
returns c = λ f n rs qs h k.
    h.told ∙ ap (λ d. meant_behind f.part f.probes f.variable f.code d) (one_count f n (end_of f n rs h) (end_of f n qs k) (has_ended f n rs h) (has_ended f n qs k)) ∙ sym k.told

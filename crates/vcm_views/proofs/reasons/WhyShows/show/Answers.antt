use Rattle.std.proofs.Common.{map, Vec, ℕ, Global}
use Rattle.vcm_views.proofs.ReasonViews.{why_viewed, why_cut_short}
use Rattle.vcm_views.proofs.reasons.WhyShows.show.Goals as goal

pub returns-in-Ok-tell-clause-shown : goal.returns-in-Ok-tell-clause-shown
returns-in-Ok-tell-clause-shown g c =
    why_viewed (map (λ (v : Vec ℕ Global). v.items) c.args.self.now.block_names.now) _ _ _ _ _ _ _ _ c.in-Ok-tell.stop (rw c.in-Ok-new.ensures at c.in-Ok-tell.ensures.why) c.status_of.ensures

pub returns-clause-fault : goal.returns-clause-fault
returns-clause-fault g c =
    rw c.cut_short.ensures (why_cut_short (map (λ (v : Vec ℕ Global). v.items) c.args.self.now.block_names.now) _ _ _ _ _ _ _ c.in-Err.fault (rw c.in-Ok-new.ensures at c.in-Err.ensures.fault))

use Rattle.std.proofs.Common.{map, Vec, ℕ, Global}
use Rattle.std.specs.Prelude.{option_map}
use Rattle.std.proofs.KnownBytes.{Keeps-refl}
use Rattle.vcm_views.proofs.ClearanceViews.{clearance_viewed, clearance_cut_short}
use Rattle.vcm_views.proofs.clearances.ClearanceShows.show.Goals as goal

pub returns-in-Ok-clearance-clause-shown : goal.returns-in-Ok-clearance-clause-shown
returns-in-Ok-clearance-clause-shown g c =
    clearance_viewed _ (map (λ (v : Vec ℕ Global). v.items) c.args.self.now.block_names.now) _ _ (option_map (λ (v : Vec ℕ Global). v.items) c.args.given.now.text) c.args.given.now.notices.items _ c.in-Ok-source_if.ensures _ _ c.in-Ok.ensures.meaning _ _ _ _ _ c.in-Ok-clearance.cleared
    (rw c.in-Ok-new.ensures at c.in-Ok-clearance.ensures.cleared) c.status_with.ensures

pub returns-in_default-source_if-clause-fault : goal.returns-in_default-source_if-clause-fault
returns-in_default-source_if-clause-fault g c = Keeps-refl _

pub returns-clause-fault : goal.returns-clause-fault
returns-clause-fault g c =
    rw c.cut_short.ensures (clearance_cut_short c.args.self.now.tells_calls (map (λ (v : Vec ℕ Global). v.items) c.args.self.now.block_names.now) _ _ (option_map (λ (v : Vec ℕ Global). v.items) c.args.given.now.text) c.args.given.now.notices.items _ c.in-Ok-source_if.ensures _ _ c.in-Ok.ensures.meaning _ _ _ _
    c.in-Err.fault (rw c.in-Ok-new.ensures at c.in-Err.ensures.fault))

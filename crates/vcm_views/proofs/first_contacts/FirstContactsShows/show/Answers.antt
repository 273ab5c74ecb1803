use Rattle.std.proofs.Common.{map, Vec, ℕ, Global}
use Rattle.vcm_views.proofs.FirstViews.{first_viewed, first_cut_short}
use Rattle.vcm_views.proofs.first_contacts.FirstContactsShows.show.Goals as goal

pub returns-in-Ok-tell_first-clause-shown : goal.returns-in-Ok-tell_first-clause-shown
returns-in-Ok-tell_first-clause-shown g c =
    first_viewed (map (λ (v : Vec ℕ Global). v.items) c.args.self.now.block_names.now) _ _ _ _ _ _ _ _ _ c.in-Ok-tell_first.told
    (rw (c.in-Ok-new.ensures, c.text_in.ensures) at c.in-Ok-tell_first.ensures.told) c.status_with.ensures

pub returns-clause-fault : goal.returns-clause-fault
returns-clause-fault g c =
    rw c.cut_short.ensures (first_cut_short (map (λ (v : Vec ℕ Global). v.items) c.args.self.now.block_names.now) _ _ _ _ _ _ _ _ c.in-Err.fault
    (rw (c.in-Ok-new.ensures, c.text_in.ensures) at c.in-Err.ensures.fault))

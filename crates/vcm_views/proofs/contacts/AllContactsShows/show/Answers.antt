use Rattle.std.proofs.Common.{map, Vec, ℕ, Global}
use Rattle.std.proofs.KnownBytes.{Keeps-refl}
use Rattle.vcm_contacts.specs.Noted.{seen}
use Rattle.std.specs.Prelude.{option_map}
use Rattle.vcm_views.proofs.ReasonViews.{contacts_cut_off, contacts_halted}
use Rattle.vcm_views.proofs.contacts.AllContactsShows.show.Goals as goal

pub returns-in_default-tables-clause-fault : goal.returns-in_default-tables-clause-fault
returns-in_default-tables-clause-fault g c = Keeps-refl _

pub returns-in_default-new-clause-fault : goal.returns-in_default-new-clause-fault
returns-in_default-new-clause-fault g c = Keeps-refl _

pub returns-in-Err-clause-fault : goal.returns-in-Err-clause-fault
returns-in-Err-clause-fault g c =
    rw c.cut_short.ensures (contacts_halted (map (λ (v : Vec ℕ Global). v.items) c.args.self.now.block_names.now) (option_map (λ (v : Vec ℕ Global). v.items) c.args.given.now.text)
    c.args.given.now.notices.items _ _ _ _ _ c.in-Err.fault c.in-Err.ensures.fault (Keeps-refl _))

pub returns-clause-fault : goal.returns-clause-fault
returns-clause-fault g c =
    contacts_cut_off (map (λ (v : Vec ℕ Global). v.items) c.args.self.now.block_names.now) _ _ _ _ _ _ _ _ c.in-Ok-source_in.ensures _ (map seen c.in-Ok-collect_contacts.found.found.items) _ c.in-Ok-tables.ensures
    c.in-Ok-collect_contacts.ensures.contacts (rw (c.deref.ensures.value, c.in-Ok-new.ensures) at c.in-Err-write_contacts.ensures)

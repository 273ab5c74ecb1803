-- Statements about runs with several probes that go on behind contacts. Each is a clause of a law in src/laws.rt.
use Rattle.std.specs.Prelude.{◌≡◌, ℕ, List, [], ◌∷◌, Some}
use Rattle.vcm_spec.specs.declared.stop.Stop.TheVariants.{Collision}
use Rattle.vcm_spec.specs.Workpiece.{Workpiece}
use Rattle.vcm_code.specs.declared.code.Code.{Code}
use Rattle.vcm_way.specs.Ways.{reason}
use Rattle.vcm_probe_set.specs.Probes.{Probe}
use Rattle.vcm_turning.specs.Turning.{Turned, turned_after}
use Rattle.vcm_contacts.specs.declared.contact.Contact.{Contact}
use Rattle.vcm_set_contacts.specs.Passing.{set_passed_after}

-- without a contact the state is that of the run, with the same probe on, and so it has ended; else the run stops with the first contact
abbrev pub TurnsWith : Turned → Turned → List Contact → Type 0
TurnsWith run passed [] = run ≡ passed
TurnsWith run passed (c ∷ cs) = reason run.state.world.stop ≡ Some (Collision c.phase c.hit)

-- so it is behind any number of steps
abbrev pub FirstContactStopsTheTurning : Type 0
FirstContactStopsTheTurning =
    (part : Workpiece) (ps : List Probe) (v : ℕ) (c : Code) (n : ℕ)
    → TurnsWith (turned_after part ps v c n) (set_passed_after part ps v c n).turned (set_passed_after part ps v c n).contacts

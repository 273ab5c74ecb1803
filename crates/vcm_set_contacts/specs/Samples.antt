-- Worked examples, computed.
use Rattle.std.specs.Prelude.{◌≡◌, refl, ℕ, pos, negsuc, List, [], ◌∷◌, Option, Some, None, codes}
use Rattle.vcm_num.specs.declared.point.Point.{Point}
use Rattle.vcm_num.specs.Point.{point}
use Rattle.vcm_spec.specs.declared.stop.Stop.TheVariants.{Ended}
use Rattle.vcm_spec.specs.declared.stop.StopPlace.{StopPlace}
use Rattle.vcm_spec.specs.declared.words.MovePhase.TheVariants.{Move}
use Rattle.vcm_spec.specs.Frame.{opening_frame}
use Rattle.vcm_spec.specs.World.{opening_settings}
use Rattle.vcm_code.specs.CodeTable.{CodeState, code_state}
use Rattle.vcm_probe_set.specs.Probes.{Probe}
use Rattle.vcm_turning.specs.Turning.{turned}
use Rattle.vcm_contacts.specs.declared.contact.Contact.{Contact}
use Rattle.vcm_contacts.specs.Passing.{Passed}
use Rattle.vcm_set_contacts.specs.Collecting.{end_of}
use Rattle.vcm_set_contacts.specs.Passing.{turned_behind}

-- a probe that hangs down, 150 mm below the turning centre of the head, and one that points to the back
abbrev hanging : ℕ → Point → Probe
hanging number pivot = record { name = codes "T1"; number = number; tip = None; pivot = pivot; pose = None; bodies = [] }

abbrev probes : List Probe
probes = hanging 1 (point (pos 0) (pos 0) (pos 150000)) ∷ hanging 3 (point (pos 0) (negsuc 149999) (pos 0)) ∷ []

-- a state in which the variable has the number 3
abbrev state : Point → Option StopPlace → CodeState
state at stop = code_state (record {
  position = at;
  frame = opening_frame;
  settings = opening_settings;
  variables = pos 3 ∷ [];
  saved = [];
  nominal = [];
  actual = [];
  lines = [];
  stop = stop;
}) 4 []

abbrev contact : Contact
contact = record { phase = Move; hit = record { block = 1; permille = 250 }; number = 3; line = 9 }

abbrev behind : Point → Option StopPlace → Passed
behind at stop = record { state = state at stop; contacts = contact ∷ [] }

-- behind a contact the head turns from the first probe to the second: the tip goes 150 mm back, and up as far
pub turned_on : turned_behind probes 0 (Some 0) (behind (point (pos 50000) (negsuc 4999) (pos 250000)) None)
    ≡ record { turned = turned (state (point (pos 50000) (pos 145000) (pos 400000)) None) (Some 1); steps = 1; contacts = contact ∷ [] }
turned_on = refl

-- where the run has stopped there, it doesn't
abbrev ended : StopPlace
ended = record { stop = Ended; number = 4; line = 10 }

pub not_turned : turned_behind probes 0 (Some 0) (behind (point (pos 50000) (negsuc 4999) (pos 250000)) (Some ended))
    ≡ record { turned = turned (state (point (pos 50000) (negsuc 4999) (pos 250000)) (Some ended)) (Some 0); steps = 1; contacts = contact ∷ [] }
not_turned = refl

-- a run that has ended behind three steps without a probe ends before the fourth
pub fourth : end_of (record {
  turned = record { state = state (point (pos 0) (pos 0) (pos 0)) None; on = None; ended = Some (record { value = pos 3; number = 4; line = 10 }) };
  steps = 3;
  contacts = [];
}) ≡ record { stop = None; lost = Some (record { probe = record { value = pos 3; number = 4; line = 10 }; step = 4 }) }
fourth = refl

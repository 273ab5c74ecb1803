-- Worked examples: probes of a file, as SNSLCT selects them.
use Rattle.std.specs.Prelude.{◌≡◌, refl, ℕ, pos, codes, true, false, List, [], ◌∷◌, Some, None}
use Rattle.vcm_events.specs.declared.event.Event.TheVariants as events
use Rattle.vcm_events.specs.Events.{event_form, lost}
use Rattle.vcm_given.specs.declared.choices.GivenProbe.{GivenProbe}
use Rattle.vcm_given.specs.declared.missing.MissingProbe.{MissingProbe}
use Rattle.vcm_given.specs.declared.spoken.Saying.TheVariants.{Probe, Unclear}
use Rattle.vcm_given.specs.declared.tips.OtherTip.{OtherTip}
use Rattle.vcm_given.specs.declared.tips.Width.TheVariants.{Wide}
use Rattle.vcm_given.specs.Spoken.{selection_saying}
use Rattle.vcm_given.specs.Tips.{own_tip, tip_beside}
use Rattle.vcm_given.specs.Missing.{is_missing, missing_on}
use Rattle.vcm_given.specs.Chosen.{again}

-- a probe with this name and number, half the width of whose tip is so many micrometres
abbrev probe : List ℕ → ℕ → ℕ → GivenProbe
probe name number tip = record { name = name; number = number; tip = pos tip }

-- two probes
abbrev file : List GivenProbe
file = probe (codes "T1") 7 1500 ∷ probe (codes "T2") 9 1000 ∷ []

-- ---- which is selected

-- S(T2) is the one with the number 9, and SA(T2) too
pub second : selection_saying file [] (Some (codes "T2", false)) ≡ Some (Probe 9)
second = refl

pub second_actual : selection_saying file [] (Some (codes "T2", true)) ≡ Some (Probe 9)
second_actual = refl

-- S(H30) is none of them, and is told of its line
pub none : selection_saying file [] (Some (codes "H30", false)) ≡ Some (Probe 0)
none = refl

pub none_told : missing_on 137 (is_missing (Some (Probe 0))) (Some (codes "H30", false)) ≡ record { line = 137; name = codes "H30"; is_actual = false } ∷ []
none_told = refl

pub second_not_told : missing_on 137 (is_missing (Some (Probe 9))) (Some (codes "T2", false)) ≡ []
second_not_told = refl

-- without a file nothing is said of a sensor that no line selects
pub without : selection_saying [] [] (Some (codes "T2", false)) ≡ None
without = refl

-- ---- what is put

pub put : again (Some (Probe 9)) (event_form events.Sensor (pos 4)) ≡ event_form events.Probe (pos 9)
put = refl

pub put_none : again (Some (Probe 0)) (event_form events.Sensor (pos 4)) ≡ lost events.Probe
put_none = refl

pub put_unclear : again (Some Unclear) (event_form events.Sensor (pos 4)) ≡ lost events.Sensor
put_unclear = refl

-- ---- tips

-- a ball of 3 mm is that of T1, whatever that of the part is, and another one than that of T2
pub own : tip_beside 4 (own_tip file (pos 250) (codes "T1")) (Some (Some 3000000)) ≡ []
own = refl

pub another : tip_beside 4 (own_tip file (pos 1500) (codes "T2")) (Some (Some 3000000)) ≡ record { line = 4; width = Wide 3000000 } ∷ []
another = refl

-- without a file that of the part counts
pub of_the_part : tip_beside 4 (own_tip [] (pos 1500) (codes "T2")) (Some (Some 3000000)) ≡ []
of_the_part = refl

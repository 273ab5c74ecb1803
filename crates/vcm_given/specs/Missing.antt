-- Selections of probes that a file of several hasn't.
use Rattle.std.specs.Prelude.{ℕ, nat_eq, Bool, true, false, List, [], ◌∷◌, Option, Some, None}
use Rattle.std.specs.List.{flat_map}
use Rattle.vcm_lines.specs.declared.logical.Logical.{Logical}
use Rattle.vcm_given.specs.declared.choices.GivenProbe.{GivenProbe}
use Rattle.vcm_given.specs.declared.missing.MissingProbe.{MissingProbe}
use Rattle.vcm_given.specs.declared.spoken.Saying.{Saying}
use Rattle.vcm_given.specs.declared.spoken.Saying.TheVariants.{Probe}
use Rattle.vcm_given.specs.Spoken.{selected, selection_saying}

-- whether a selection of which this is said is one of no probe of the file
abbrev pub is_missing : Option Saying → Bool
is_missing (Some (Probe n)) = nat_eq n 0
is_missing s = false

-- the sensor of a line, if it is one
abbrev pub missing_on : ℕ → Bool → Option (List ℕ × Bool) → List MissingProbe
missing_on line false s = []
missing_on line true None = []
missing_on line true (Some s) = record { line = line; name = s.0; is_actual = s.1 } ∷ []

-- the same of a statement, among those of its text
unfoldable pub missing_by : List GivenProbe → List Logical → Logical → List MissingProbe
missing_by ps ls l = missing_on l.line (is_missing (selection_saying ps ls (selected l))) (selected l)

-- the sensors that a text selects and the file hasn't, in order
abbrev pub missing_probes : List GivenProbe → List Logical → List MissingProbe
missing_probes ps ls = flat_map (missing_by ps ls) ls

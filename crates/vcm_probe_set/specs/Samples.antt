-- Worked examples of probe files of several probes.
use Rattle.std.specs.Prelude.{◌≡◌, ℕ, pos, negsuc, true, false, List, [], ◌∷◌, ◌++◌, codes, Some, None, Result, Ok, Err}
use Rattle.vcm_num.specs.Point.{point}
use Rattle.vcm_spec.specs.declared.workpiece.Block3.{Block3}
use Rattle.vcm_boxes.specs.declared.boxes.ProbeBox.{ProbeBox}
use Rattle.vcm_probe_set.specs.declared.place.Place.TheVariants.{File, InProbe, InBox}
use Rattle.vcm_probe_set.specs.declared.place.BoxOwner.TheVariants.{OfProbe}
use Rattle.vcm_probe_set.specs.declared.place.Key.TheVariants.{Swing, Low}
use Rattle.vcm_probe_set.specs.declared.fault.Refusal.{Refusal}
use Rattle.vcm_probe_set.specs.declared.fault.Refusal.TheVariants.{UnknownKey, BadKey, DuplicateNumber}
use Rattle.vcm_probe_set.specs.Bodies.{bodies_of}
use Rattle.vcm_probe_set.specs.Probes.{Probe, Probes}
use Rattle.vcm_probe_set.specs.ProbeFile.{set_of, is_of_several}

-- a text gives this answer
abbrev pub Gives : List ℕ → Result Probes Refusal → Type 0
Gives text answer = set_of text ≡ answer

-- a probe that hangs down, with a shaft of 45 mm
abbrev pub down_text : List ℕ
down_text = codes "[[probe]]\nname = \"T1\"\nnumber = 1\npivot = [0, 0, 100000]\n[[probe.box]]\nname = \"shaft\"\nlow = [-700, -700, 5000]\nhigh = [700, 700, 50000]\n"

abbrev pub shaft : Block3
shaft = record { low = point (negsuc 699) (negsuc 699) (pos 5000); high = point (pos 700) (pos 700) (pos 50000) }

abbrev pub down : Probe
down = record {
  name = codes "T1";
  number = 1;
  tip = None;
  pivot = point (pos 0) (pos 0) (pos 100000);
  pose = None;
  bodies = record { name = codes "shaft"; blocks = shaft ∷ [] } ∷ [];
}

-- one probe, which nothing turns
abbrev pub OneProbe : Type 0
OneProbe = Gives down_text (Ok (record { variable = codes "PROBE"; travel = None; probes = down ∷ []; swing = [] }))

-- another variable, in small letters
abbrev pub OtherVariable : Type 0
OtherVariable = Gives (codes "variable = \"tool_2\"\n" ++ down_text) (Ok (record { variable = codes "TOOL_2"; travel = None; probes = down ∷ []; swing = [] }))

-- a second probe, whose box is to come
abbrev pub next_text : List ℕ → List ℕ
next_text number = codes "[[probe]]\nname = \"T1A37.5+\"\nnumber = " ++ number ++ codes "\npivot = [0, 1, 2]\n[[probe.box]]\nname = \"shaft\"\n"

-- the number of the first again
abbrev pub SameNumber : Type 0
SameNumber = Gives (down_text ++ (next_text (codes "1") ++ codes "low = [0, 0, 0]\nhigh = [0, 0, 0]\n")) (Err (DuplicateNumber 2))

-- nothing says what holds all that turns between them
abbrev pub NoSwing : Type 0
NoSwing = Gives (down_text ++ (next_text (codes "2") ++ codes "low = [0, 0, 0]\nhigh = [0, 0, 0]\n")) (Err (BadKey File Swing))

-- a box without a low corner
abbrev pub NoLow : Type 0
NoLow = Gives (down_text ++ next_text (codes "2")) (Err (BadKey (InBox (OfProbe 2) 1) Low))

-- a tip that is spelled otherwise
abbrev pub OtherKey : Type 0
OtherKey = Gives (codes "[[probe]]\ntipp = 1\n") (Err (UnknownKey (InProbe 1) (Some (codes "tipp"))))

-- a box of this name, where it doesn't matter which
abbrev named : List ℕ → ProbeBox
named name = record { name = name; block = shaft }

-- boxes of one name are one body, which stands where the first of them does
abbrev pub OneBody : Type 0
OneBody = bodies_of (named (codes "shaft") ∷ named (codes "head") ∷ named (codes "shaft") ∷ [])
    ≡ (record { name = codes "shaft"; blocks = shaft ∷ shaft ∷ [] } ∷ record { name = codes "head"; blocks = shaft ∷ [] } ∷ [])

-- which of both a file is
abbrev pub IsSeveral : Type 0
IsSeveral = is_of_several down_text ≡ true

abbrev pub IsOne : Type 0
IsOne = is_of_several (codes "box = []\n") ≡ false

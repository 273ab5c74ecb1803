-- Worked examples of probe files.
use Rattle.std.specs.Prelude.{◌≡◌, ℕ, pos, negsuc, List, [], ◌∷◌, ◌++◌, codes, Option, Some, None, Result, Ok, Err}
use Rattle.vcm_num.specs.Point.{point}
use Rattle.vcm_boxes.specs.declared.boxes.ProbeBox.{ProbeBox}
use Rattle.vcm_boxes.specs.declared.fault.BoxKey.TheVariants.{Low}
use Rattle.vcm_boxes.specs.declared.fault.Refusal.{Refusal}
use Rattle.vcm_boxes.specs.declared.fault.Refusal.TheVariants.{UnknownKey, NoBoxes, UnknownBoxKey, BadKey, LowAboveHigh, DuplicateName}
use Rattle.vcm_boxes.specs.BoxFile.{boxes_of}

-- a text gives this answer
abbrev pub Gives : List ℕ → Result (List ProbeBox) Refusal → Type 0
Gives text answer = boxes_of text ≡ answer

-- the neck of a stylus: its first ten millimetres
abbrev pub neck_text : List ℕ
neck_text = codes "[[box]]\nname = \"neck\"\nlow = [-700, -700, 0]\nhigh = [700, 700, 10000]\n"

-- its box
abbrev pub neck : ProbeBox
neck = record { name = codes "neck"; block = record { low = point (negsuc 699) (negsuc 699) (pos 0); high = point (pos 700) (pos 700) (pos 10000) } }

-- one box
abbrev pub OneBox : Type 0
OneBox = Gives neck_text (Ok (neck ∷ []))

-- the same name again
abbrev pub SameName : Type 0
SameName = Gives (neck_text ++ neck_text) (Err (DuplicateName 2))

-- the tip of a part file below a box belongs to that box
abbrev pub TipBelow : Type 0
TipBelow = Gives (neck_text ++ codes "tip = 1000\n") (Err (UnknownBoxKey 1 (Some (codes "tip"))))

-- another name of the array
abbrev pub Boxes : Type 0
Boxes = Gives (codes "[[boxes]]\nname = \"neck\"\n") (Err (UnknownKey (Some (codes "boxes"))))

-- a key that is no label
abbrev pub OddKey : Type 0
OddKey = Gives (codes "\"a b\" = 1\n") (Err (UnknownKey None))

-- an empty text, and an empty array
abbrev pub Nothing : Type 0
Nothing = Gives [] (Err NoBoxes)

abbrev pub Empty : Type 0
Empty = Gives (codes "box = []\n") (Err NoBoxes)

-- millimetres with points
abbrev pub Millimetres : Type 0
Millimetres = Gives (codes "[[box]]\nname = \"shaft\"\nlow = [-0.7, -0.7, 1]\nhigh = [0.7, 0.7, 50]\n") (Err (BadKey 1 Low))

-- a low corner above the high one on one axis
abbrev pub Above : Type 0
Above = Gives (codes "[[box]]\nname = \"shaft\"\nlow = [0, 1, 0]\nhigh = [5, 0, 5]\n") (Err (LowAboveHigh 1))

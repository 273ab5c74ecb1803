-- The keys of a probe file of several probes.
use Rattle.std.specs.Prelude.{ℕ, List, [], ◌∷◌, codes}
use Rattle.vcm_probe_set.specs.declared.place.Key.{Key}
use Rattle.vcm_probe_set.specs.declared.place.Key.TheVariants.{Variable, Travel, Probe, Swing, Name, Number, Tip, Pivot, Pose, Boxes, Low, High}

-- the word that a key is spelled as
abbrev pub key_word : Key → List ℕ
key_word Variable = codes "variable"
key_word Travel = codes "travel"
key_word Probe = codes "probe"
key_word Swing = codes "swing"
key_word Name = codes "name"
key_word Number = codes "number"
key_word Tip = codes "tip"
key_word Pivot = codes "pivot"
key_word Pose = codes "pose"
key_word Boxes = codes "box"
key_word Low = codes "low"
key_word High = codes "high"

-- the keys of a file, of its travel, of a probe, and of a box
abbrev pub file_keys : List (List ℕ)
file_keys = key_word Variable ∷ key_word Travel ∷ key_word Probe ∷ key_word Swing ∷ []

abbrev pub travel_keys : List (List ℕ)
travel_keys = key_word Low ∷ key_word High ∷ []

abbrev pub probe_keys : List (List ℕ)
probe_keys = key_word Name ∷ key_word Number ∷ key_word Tip ∷ key_word Pivot ∷ key_word Pose ∷ key_word Boxes ∷ []

abbrev pub box_keys : List (List ℕ)
box_keys = key_word Name ∷ key_word Low ∷ key_word High ∷ []

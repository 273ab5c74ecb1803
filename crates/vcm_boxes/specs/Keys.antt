-- The keys of a probe file.
use Rattle.std.specs.Prelude.{ℕ, List, [], ◌∷◌, codes}
use Rattle.vcm_boxes.specs.declared.fault.BoxKey.{BoxKey}
use Rattle.vcm_boxes.specs.declared.fault.BoxKey.TheVariants.{Name, Low, High}

-- the word that a key of a box is spelled as
abbrev pub key_word : BoxKey → List ℕ
key_word Name = codes "name"
key_word Low = codes "low"
key_word High = codes "high"

-- the keys of a file, and those of a box
abbrev pub file_keys : List (List ℕ)
file_keys = codes "box" ∷ []

abbrev pub box_keys : List (List ℕ)
box_keys = key_word Name ∷ key_word Low ∷ key_word High ∷ []

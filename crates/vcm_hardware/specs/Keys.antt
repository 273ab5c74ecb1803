-- The keys of a description.
use Rattle.std.specs.Prelude.{ℕ, List, [], ◌∷◌, codes}
use Rattle.vcm_hardware.specs.declared.fault.HardwareKey.{HardwareKey}
use Rattle.vcm_hardware.specs.declared.fault.HardwareKey.TheVariants.{Step, Turn, Variable, Head, Part, Tip, Probe, Name, Low, High, From, To, Diameter, At, Number, A, B}

-- the word that a key is spelled as
abbrev pub key_word : HardwareKey → List ℕ
key_word Step = codes "step"
key_word Turn = codes "turn"
key_word Variable = codes "variable"
key_word Head = codes "head"
key_word Part = codes "part"
key_word Tip = codes "tip"
key_word Probe = codes "probe"
key_word Name = codes "name"
key_word Low = codes "low"
key_word High = codes "high"
key_word From = codes "from"
key_word To = codes "to"
key_word Diameter = codes "diameter"
key_word At = codes "at"
key_word Number = codes "number"
key_word A = codes "a"
key_word B = codes "b"

-- the keys of a file, of a box that stands still, of a part, of a ball and of a probe
abbrev pub file_keys : List (List ℕ)
file_keys = codes "step" ∷ codes "turn" ∷ codes "variable" ∷ codes "head" ∷ codes "part" ∷ codes "tip" ∷ codes "probe" ∷ []

abbrev pub head_keys : List (List ℕ)
head_keys = codes "name" ∷ codes "low" ∷ codes "high" ∷ []

abbrev pub part_keys : List (List ℕ)
part_keys = codes "name" ∷ codes "from" ∷ codes "to" ∷ codes "diameter" ∷ codes "step" ∷ []

abbrev pub tip_keys : List (List ℕ)
tip_keys = codes "name" ∷ codes "at" ∷ codes "diameter" ∷ []

abbrev pub probe_keys : List (List ℕ)
probe_keys = codes "name" ∷ codes "number" ∷ codes "tip" ∷ codes "a" ∷ codes "b" ∷ []

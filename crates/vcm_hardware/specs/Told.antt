-- Refusals as they are told.
use Rattle.std.specs.Prelude.{ℕ, List, [], ◌∷◌, ◌++◌, codes, Option, Some, None}
use Rattle.std.specs.Fmt.{decimal}
use Rattle.vcm_hardware.specs.declared.fault.Where.{Where}
use Rattle.vcm_hardware.specs.declared.fault.Where.TheVariants.{Top, Head, Part, Tip, Probe}
use Rattle.vcm_hardware.specs.declared.fault.Refusal.{Refusal}
use Rattle.vcm_hardware.specs.declared.fault.Refusal.TheVariants.{NotToml, BadKey, OutOfRange, NotAlongAxis, TooManyBoxes, UnknownKey, DuplicateName, UnknownTip, NotAStep, LowAboveHigh, TooMany, DuplicateNumber}
use Rattle.vcm_hardware.specs.Keys.{key_word}
use Rattle.vcm_hardware.specs.Pieces.{joined}

-- a word and a number
abbrev pub numbered_text : List ℕ → ℕ → List ℕ
numbered_text word n = joined (word ∷ decimal n ∷ [])

-- where it is
abbrev pub where_text : Where → List ℕ
where_text Top = []
where_text (Head n) = numbered_text (codes " head ") n
where_text (Part n) = numbered_text (codes " part ") n
where_text (Tip n) = numbered_text (codes " tip ") n
where_text (Probe n) = numbered_text (codes " probe ") n

-- a refusal, and where it is
abbrev pub at_text : List ℕ → Where → List ℕ
at_text words place = words ++ where_text place

-- the same with a key
abbrev pub key_text : List ℕ → Where → List ℕ → List ℕ
key_text words place key = at_text words place ++ (codes " " ++ key)

-- a key that isn't known is told by a sign for it where it is no label
abbrev pub unknown_text : Where → Option (List ℕ) → List ℕ
unknown_text place None = key_text (codes "H06 UnknownKey") place (codes "?")
unknown_text place (Some key) = key_text (codes "H06 UnknownKey") place key

-- too many boxes, and how many
abbrev pub boxes_told : ℕ → ℕ → List ℕ
boxes_told n k = at_text (codes "H05 TooManyBoxes") (Probe n) ++ numbered_text (codes " ") k

-- a refusal
abbrev pub refusal_text : Refusal → List ℕ
refusal_text NotToml = codes "H01 NotToml"
refusal_text (BadKey place key) = key_text (codes "H02 BadKey") place (key_word key)
refusal_text (OutOfRange place key) = key_text (codes "H03 OutOfRange") place (key_word key)
refusal_text (NotAlongAxis n) = at_text (codes "H04 NotAlongAxis") (Part n)
refusal_text (TooManyBoxes n k) = boxes_told n k
refusal_text (UnknownKey place key) = unknown_text place key
refusal_text (DuplicateName place) = at_text (codes "H07 DuplicateName") place
refusal_text (UnknownTip n) = at_text (codes "H08 UnknownTip") (Probe n)
refusal_text (NotAStep place key) = key_text (codes "H09 NotAStep") place (key_word key)
refusal_text (LowAboveHigh n) = at_text (codes "H10 LowAboveHigh") (Head n)
refusal_text (TooMany key) = key_text (codes "H11 TooMany") Top (key_word key)
refusal_text (DuplicateNumber n) = at_text (codes "H12 DuplicateNumber") (Probe n)

-- What is proved of probe files.
use Rattle.std.specs.Prelude.{◌≡◌, ◌≢◌, ℕ, List, Result, Err}
use Rattle.vcm_boxes.specs.declared.boxes.ProbeBox.{ProbeBox}
use Rattle.vcm_boxes.specs.declared.fault.BoxesFault.{BoxesFault}
use Rattle.vcm_boxes.specs.declared.fault.BoxesFault.TheVariants.{NoMemory}
use Rattle.vcm_boxes.specs.BoxFile.{AreBoxesRead}

-- two answers to the same bytes are one, unless a growth of memory was refused
abbrev pub OneAnswer : Type 0
OneAnswer = (bytes : List ℕ) (r s : Result (List ProbeBox) BoxesFault) → AreBoxesRead bytes r → AreBoxesRead bytes s → r ≢ Err NoMemory → s ≢ Err NoMemory
    → r ≡ s

-- What is proved of probe files of several probes.
use Rattle.std.specs.Prelude.{◌≡◌, ◌≢◌, ℕ, List, Result, Err}
use Rattle.vcm_probe_set.specs.declared.fault.ProbeSetFault.{ProbeSetFault}
use Rattle.vcm_probe_set.specs.declared.fault.ProbeSetFault.TheVariants.{NoMemory}
use Rattle.vcm_probe_set.specs.Probes.{Probes}
use Rattle.vcm_probe_set.specs.ProbeFile.{AreProbesRead}

-- two answers to the same bytes are one, unless a growth of memory was refused
abbrev pub OneAnswer : Type 0
OneAnswer = (bytes : List ℕ) (r s : Result Probes ProbeSetFault) → AreProbesRead bytes r → AreProbesRead bytes s → r ≢ Err NoMemory → s ≢ Err NoMemory
    → r ≡ s

-- What the steps of reading answer inside this crate.
use Rattle.std.specs.Prelude.{◌≡◌, Result, Ok, Err}
use Rattle.vcm_probe_set.specs.declared.fault.Refusal.{Refusal}
use Rattle.vcm_probe_set.specs.declared.fault.ProbeSetFault.{ProbeSetFault}
use Rattle.vcm_probe_set.specs.declared.fault.ProbeSetFault.TheVariants.{NoMemory, Refused}

-- the definition refuses so, or memory ran out
abbrev pub Fails : {Y : Type 0} → ProbeSetFault → Result Y Refusal → Type 0
Fails NoMemory read = Unit {0}
Fails (Refused r) read = read ≡ Err r

-- what was read, seen by view, is what the definition gives, unless memory ran out
abbrev pub Gives : {X Y : Type 0} → (X → Y) → Result X ProbeSetFault → Result Y Refusal → Type 0
Gives view (Ok x) read = read ≡ Ok (view x)
Gives view (Err e) read = Fails e read

-- What the steps of reading answer inside this crate: a refusal, or want of memory.
use Rattle.std.specs.Prelude.{◌≡◌, Result, Ok, Err}
use Rattle.vcm_part.specs.declared.fault.PartFault.{PartFault}
use Rattle.vcm_part.specs.declared.fault.NotRead.{NotRead}
use Rattle.vcm_part.specs.declared.fault.NotRead.TheVariants as not_read

-- the definition refuses so, or memory ran out
abbrev pub Fails : {Y : Type 0} → NotRead → Result Y PartFault → Type 0
Fails not_read.Memory read = Unit {0}
Fails (not_read.Fault f) read = read ≡ Err f

-- what was read, seen by view, is what the definition gives, unless memory ran out
abbrev pub Gives : {X Y : Type 0} → (X → Y) → Result X NotRead → Result Y PartFault → Type 0
Gives view (Ok x) read = read ≡ Ok (view x)
Gives view (Err e) read = Fails e read

-- What is known while a run is followed.
use Rattle.vcm_meant.specs.declared.noted.Noted as kept
use Rattle.vcm_meant.specs.Noted.{Noted}

-- what is known, as the definitions have it
abbrev pub noted_of : kept.Noted → Noted
noted_of n = record { feats = n.feats; declared = n.declared.items; loops = n.loops.items; remarks = n.remarks.items }

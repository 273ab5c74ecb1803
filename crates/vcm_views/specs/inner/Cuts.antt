-- Why a view wasn't written, where what is told of its run wasn't.
use Rattle.vcm_steps.specs.declared.fault.Unfinished.{Unfinished}
use Rattle.vcm_steps.specs.declared.fault.Unfinished.TheVariants as unfinished
use Rattle.vcm_job.specs.declared.fault.Fault.{Fault}
use Rattle.vcm_job.specs.declared.fault.Fault.TheVariants.{NoMemory, Memory, Write}
use Rattle.vcm_job.specs.declared.fault.InputRefusal.{InputRefusal}

abbrev pub cut_short : Unfinished → Fault InputRefusal
cut_short unfinished.NoMemory = NoMemory
cut_short (unfinished.Memory done) = Memory done
cut_short (unfinished.Write done) = Write done

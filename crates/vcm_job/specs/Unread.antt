-- Inputs that weren't read whole.
use Rattle.std.specs.Prelude.{◌≡◌, ℕ, ◌<◌, List, length, Option, Result, Err, IfSome}
use Rattle.vcm_job.specs.declared.reading.ReadFault.{ReadFault}
use Rattle.vcm_job.specs.declared.reading.ReadFault.TheVariants.{NoMemory, Device, TooLong}
use Rattle.vcm_job.specs.declared.fault.Fault.{Fault}
use Rattle.vcm_job.specs.declared.fault.Fault.TheVariants as faults
use Rattle.vcm_job.specs.declared.fault.InputRefusal.{InputRefusal}
use Rattle.vcm_job.specs.declared.fault.InputRefusal.TheVariants as i
use Rattle.vcm_job.specs.declared.fault.SessionFault.{SessionFault}
use Rattle.vcm_job.specs.declared.fault.SessionFault.TheVariants as s
use Rattle.vcm_job.specs.Reading.{most_bytes}

-- the fault of a command whose input wasn't read whole
abbrev pub not_read : {R : Type 0} → ReadFault → Fault R
not_read NoMemory = faults.NoMemory
not_read Device = faults.Read
not_read TooLong = faults.TooLong

-- An input over its limit is judged by nothing else: the answer is one of the faults of an input that wasn't read whole
abbrev pub AnswersUnread : {A R : Type 0} → Option (List ℕ) → Result A (Fault R) → Type 0
AnswersUnread known answer = IfSome known (λ input. most_bytes < length input → (read : ReadFault) × (answer ≡ Err (not_read read)))

-- the fault of a session whose input is refused as a run's
abbrev pub session_fault : Fault InputRefusal → Fault SessionFault
session_fault (faults.Refused (i.Text r)) = faults.Refused (s.Text r)
session_fault (faults.Refused (i.Image e)) = faults.Refused (s.Image e)
session_fault faults.NoMemory = faults.NoMemory
session_fault (faults.Memory done) = faults.Memory done
session_fault faults.Read = faults.Read
session_fault (faults.Write done) = faults.Write done
session_fault faults.TooLong = faults.TooLong

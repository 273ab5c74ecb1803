-- What the fault of a command tells of its input: a cause, or nothing, where memory was refused or a device failed.
use Rattle.std.specs.Prelude.{ℕ, Option, Some, None}
use Rattle.vcm_lines.specs.declared.fault.SourceFault.{SourceFault}
use Rattle.vcm_lines.specs.declared.fault.FaultCode.TheVariants as text_codes
use Rattle.vcm_part.specs.declared.fault.PartFault.{PartFault}
use Rattle.vcm_part.specs.declared.fault.PartCode.TheVariants as part_codes
use Rattle.vcm_fields.specs.declared.fault.ImageFault.{ImageFault}
use Rattle.vcm_fields.specs.declared.fault.ImageFault.TheVariants as image_faults
use Rattle.vcm_words.specs.declared.fault.ListFault.{ListFault}
use Rattle.vcm_words.specs.declared.fault.ListCode.TheVariants as list_codes
use Rattle.vcm_run.specs.declared.run.Refusal.{Refusal}
use Rattle.vcm_run.specs.declared.run.Refusal.TheVariants.{Source, Part, NoMemory}
use Rattle.vcm_job.specs.declared.reading.ReadFault.{ReadFault}
use Rattle.vcm_job.specs.declared.reading.ReadFault.TheVariants as reads
use Rattle.vcm_job.specs.declared.fault.InputRefusal.{InputRefusal}
use Rattle.vcm_job.specs.declared.fault.InputRefusal.TheVariants.{Text, Image}
use Rattle.vcm_job.specs.declared.fault.Fault.{Fault}
use Rattle.vcm_job.specs.declared.fault.Fault.TheVariants as faults

-- why an input gives nothing: its text is refused, at this line; or it is an image, a listing or a part file, and refused so; or it is too long
pub data Cause : Type 0 where
  at_line : ℕ → Cause
  bad_image : ImageFault → Cause
  bad_listing : ListFault → Cause
  bad_part : PartFault → Cause
  too_long : Cause

-- of the refusal of a text the line is told
abbrev pub text_cause : SourceFault → Option Cause
text_cause f = elim f.code [ text_codes.NoMemory ↦ None | _ ↦ Some (at_line f.line) ]

-- that of an image
abbrev pub image_cause : ImageFault → Option Cause
image_cause image_faults.NoMemory = None
image_cause e = Some (bad_image e)

-- that of a listing
abbrev pub listing_cause : ListFault → Option Cause
listing_cause f = elim f.code [ list_codes.NoMemory ↦ None | _ ↦ Some (bad_listing f) ]

-- that of a part file
abbrev pub part_cause : PartFault → Option Cause
part_cause e = elim e.code [ part_codes.NoMemory ↦ None | _ ↦ Some (bad_part e) ]

-- that of a program, or of the part beside it
abbrev pub refusal_cause : Refusal → Option Cause
refusal_cause (Source f) = text_cause f
refusal_cause (Part e) = part_cause e
refusal_cause NoMemory = None

-- the fault of an input that wasn't read whole
abbrev pub read_cause : ReadFault → Option Cause
read_cause reads.TooLong = Some too_long
read_cause _ = None

-- that of an image or a text
abbrev pub input_cause : InputRefusal → Option Cause
input_cause (Text r) = refusal_cause r
input_cause (Image e) = image_cause e

-- the fault of a command, where its refusals tell this
abbrev pub fault_cause : {R : Type 0} → (R → Option Cause) → Fault R → Option Cause
fault_cause cause (faults.Refused r) = cause r
fault_cause cause faults.TooLong = Some too_long
fault_cause cause _ = None

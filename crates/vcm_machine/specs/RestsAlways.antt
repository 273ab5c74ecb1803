-- The probe at rest in every state of a code, and of a program.
use Rattle.std.specs.Prelude.{ℕ, List}
use Rattle.vcm_spec.specs.Setup.{Setup}
use Rattle.vcm_spec.specs.Workpiece.{IsValid}
use Rattle.vcm_spec.specs.Program.{Block}
use Rattle.vcm_spec.specs.Table.{steps, opening}
use Rattle.vcm_spec.specs.Rests.{Rests}
use Rattle.vcm_code.specs.Code.{CodeStatement}
use Rattle.vcm_code.specs.CodeTable.{code_steps, start}

-- the centre of the tip is within the limits and the tip meets no block in every state of a code table, also at a stop
abbrev pub RestsAlways : Type 0
RestsAlways =
    (setup : Setup) → IsValid setup.part → (code : List CodeStatement) (n : ℕ) → Rests setup.part (code_steps setup code n (start setup)).world

-- so it is in every state of the statement table
abbrev pub ProgramsRest : Type 0
ProgramsRest = (setup : Setup) → IsValid setup.part → (program : Block) (n : ℕ) → Rests setup.part (steps setup n (opening setup program)).world

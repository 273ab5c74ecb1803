-- What the assembler gives: the code of a program, and what it does.
use Rattle.std.specs.Prelude.{◌≡◌, ℕ, List, slice_get}
use Rattle.vcm_spec.specs.Workpiece.{Workpiece}
use Rattle.vcm_spec.specs.Setup.{Setup, Tables, setup_of}
use Rattle.vcm_spec.specs.Program.{Block}
use Rattle.vcm_spec.specs.Table.{steps, opening, front, next_number}
use Rattle.vcm_spec.specs.Printing.{takes_memory, next_node}
use Rattle.vcm_code.specs.declared.code.Code.{Code}
use Rattle.vcm_code.specs.Code.{CodeStatement}
use Rattle.vcm_code.specs.CodeTable.{code_steps, start, next_prints}
use Rattle.vcm_code.specs.Ranges.{version_for}
use Rattle.vcm_asm.specs.Assembled.{flat_code}

-- after n steps the code has the state and the next number of the program, and an output line comes next in both or in neither
pub record SameAfter (setup : Setup) (program : Block) (code : List CodeStatement) (n : ℕ) : Type 0 where
  pub world : (code_steps setup code n (start setup)).world ≡ (steps setup n (opening setup program)).world
  pub next : (code_steps setup code n (start setup)).next ≡ next_number (steps setup n (opening setup program)).entries
  pub prints : next_prints (slice_get code (code_steps setup code n (start setup)).next)
      ≡ takes_memory (next_node (front (steps setup n (opening setup program)).entries))

-- this is the code of a program with these tables: it has the first version that has all its statements, which are the program's, laid out one
-- behind the other; and on each workpiece and after each number of steps it has the program's state and next number
pub record IsAssembled (program : Block) (tables : Tables) (c : Code) : Type 0 where
  pub version_is : c.version ≡ version_for c.statements
  pub tables_are : c.tables ≡ tables
  pub statements_are : c.statements ≡ flat_code program
  pub follows : (part : Workpiece) (n : ℕ) → SameAfter (setup_of part tables) program c.statements n

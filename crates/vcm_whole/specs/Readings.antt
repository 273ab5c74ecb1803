-- What of a text hangs on how a machine counts and reads it, and is taken in one way.
use Rattle.std.specs.Prelude.{List}
use Rattle.std.specs.List.{list_any}
use Rattle.vcm_lines.specs.declared.logical.Logical.{Logical}
use Rattle.vcm_forms.specs.declared.statement.Statement.{Statement}
use Rattle.vcm_doubts.specs.Readings.{compared_lines, borrowed_lines}
use Rattle.vcm_kept.specs.Exactly.{is_cut}
use Rattle.vcm_whole.specs.declared.readings.Readings.{Readings}

-- the lines that compare what is reckoned of decimals, those within macros that use variables of the main program, and whether a value may be cut off
abbrev pub readings_of : List Logical → List Statement → Readings
readings_of ls ss = record { compared = compared_lines ss; borrowed = borrowed_lines ls ss; is_cut = list_any (λ s. is_cut s.form) ss }

-- The reading of a listing: the code that its lines give, or the first line with a fault.
use Rattle.std.specs.Prelude.{ℕ, suc, ◌==◌, ◌&&◌, nat_lt, Bool, true, false, if◌then◌else◌, List, [], ◌∷◌, ◌++◌, length, Option, Some, None}
use Rattle.std.specs.Prelude.{Result, Ok, Err}
use Rattle.vcm_code.specs.declared.code.Code.{Code}
use Rattle.vcm_code.specs.declared.version.Version.{Version}
use Rattle.vcm_code.specs.declared.version.Version.TheVariants.{One}
use Rattle.vcm_spec.specs.Setup.{Tables}
use Rattle.vcm_words.specs.declared.row.Row.TheVariants.{Head, Variable, Feature, Frame, Numbered}
use Rattle.vcm_words.specs.declared.fault.ListCode.{ListCode}
use Rattle.vcm_words.specs.declared.fault.ListCode.TheVariants.{BadLine, BadNumber, OutOfOrder}
use Rattle.vcm_words.specs.declared.fault.ListFault.{ListFault}
use Rattle.vcm_words.specs.Cutting.{split}
use Rattle.vcm_words.specs.Rows.{ListRow, row_of}
use Rattle.vcm_num.specs.declared.limits.TheConstants.{MOST_NAMES, MOST_STATEMENTS}

-- there is nothing
abbrev pub is_empty : {A : Type 0} → List A → Bool
is_empty [] = true
is_empty (x ∷ xs) = false

-- the code with other tables
abbrev pub with_tables : Code → Tables → Code
with_tables c tables = record { version = c.version; tables = tables; statements = c.statements }

-- a table with room takes the next index while no later section has begun
abbrev pub placed : (count limit i : ℕ) → Bool → Code → Result Code ListCode
placed count limit i in_order c =
    if nat_lt count limit then (if (i == count) && in_order then Ok c else Err OutOfOrder) else Err BadNumber

-- the code with one more line
unfoldable pub added : Code → ListRow → Result Code ListCode
added c (Head version) = Err OutOfOrder
added c (Variable i v) =
    placed (length c.tables.variables) MOST_NAMES i (is_empty c.tables.features && (is_empty c.tables.frames && is_empty c.statements))
    (with_tables c (record c.tables { variables = c.tables.variables ++ v ∷ [] }))
added c (Feature i name) =
    placed (length c.tables.features) MOST_NAMES i (is_empty c.tables.frames && is_empty c.statements)
    (with_tables c (record c.tables { features = c.tables.features ++ name ∷ [] }))
added c (Frame i name) =
    placed (length c.tables.frames) MOST_NAMES i (is_empty c.statements)
    (with_tables c (record c.tables { frames = c.tables.frames ++ name ∷ [] }))
added c (Numbered n s) =
    placed (length c.statements) MOST_STATEMENTS n true (record { version = c.version; tables = c.tables; statements = c.statements ++ s ∷ [] })

-- a line that can't be read has the shape of a line with other numbers, or no shape
abbrev pub unread : Option ListRow → ListCode
unread None = BadLine
unread (Some r) = BadNumber

-- what a line makes of the code before it
abbrev pub after_line : Code → Option ListRow → List ℕ → Result Code ListCode
after_line c (Some r) w = added c r
after_line c None w = Err (unread (row_of c.version false w))

-- the first line has to be the head
abbrev pub unread_head : Option ListRow → ListCode
unread_head (Some (Head version)) = BadNumber
unread_head _ = BadLine

-- the first line, which tells the version of the others; a head is the same in each version
abbrev pub first_row : Bool → List ℕ → Option ListRow
first_row exact w = row_of One exact w

-- the code of a version without names and statements
abbrev pub empty : Version → Code
empty version = record { version = version; tables = record { variables = []; features = []; frames = [] }; statements = [] }

-- what the first line makes
abbrev pub after_head : Option ListRow → List ℕ → Result Code ListCode
after_head (Some (Head version)) w = Ok (empty version)
after_head _ w = Err (unread_head (first_row false w))

-- a rule that is broken at line n
abbrev pub told : ℕ → ListCode → ListFault
told n e = record { code = e; line = n }

-- go on from the code that line n gives, or tell its fault there
abbrev pub on : ℕ → Result Code ListCode → (Code → Result Code ListFault) → Result Code ListFault
on n (Ok c) f = f c
on n (Err e) f = Err (told n e)

-- the lines from the n-th on, each without its end; the last part is what stands behind the last end
unfoldable pub lines_read : ℕ → Code → List (List ℕ) → Result Code ListFault
lines_read n c [] = Err (told n BadLine)
lines_read n c (w ∷ []) = if is_empty w then Ok c else Err (told n BadLine)
lines_read n c (w ∷ v ∷ ws) = on n (after_line c (row_of c.version true w) w) (λ d. lines_read (suc n) d (v ∷ ws))

-- the lines of a listing
abbrev pub parts_read : List (List ℕ) → Result Code ListFault
parts_read [] = Err (told 1 BadLine)
parts_read (w ∷ []) = Err (told 1 BadLine)
parts_read (w ∷ v ∷ ws) = on 1 (after_head (first_row true w) w) (λ c. lines_read 2 c (v ∷ ws))

-- the code that the bytes list, or the first fault
unfoldable pub code_listed : List ℕ → Result Code ListFault
code_listed bytes = parts_read (split 10 bytes)
